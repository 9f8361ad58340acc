-- Demand 2 for a release, where it is accepted: the two steps in either order, which byte is whose, that the image afterwards reads at the
-- new base, what an empty sheet and the present base do, and that going there and back restores the image.
-- Assumes nothing.
use Rattle.std.specs.Prelude.{ℕ, ◌+◌, ◌%◌, ◌^◌, ◌≤◌, ◌<◌, List, ◌≡◌, refl, length, get_or, take, drop}
use Rattle.std.proofs.Common.{inl, inr, sym, ◌∙◌, arith, length-take, length-drop, ext_get_or, get_or-take, get_or-drop, ap}
use Rattle.facts.specs.Fact.{Holds}
use Rattle.words.specs.Le.{le, Bytes}
use Rattle.words.specs.LeLaws.{le_cong}
use Rattle.header.specs.Base.{legal_base}
use Rattle.answers.specs.declared.Reading.{Reading}
use Rattle.reading_rules.specs.Words.{met}
use Rattle.reading_rules.specs.Reading.{rebased, reading2, Read2}
use Rattle.reading_rules.specs.Edition.{guaranteed}
use Rattle.reading_rules.specs.Numbers.{Numbered, OwnRelease}
use Rattle.reading_rules.specs.NumbersLaws.{after_every, numbered_own2, own_number, own_zero}
use Rattle.answers.specs.declared.Moved.{Moved}
use Rattle.moves.specs.Moves.{difference, Beside}
use Rattle.move_image.specs.Moving.{moved_words, move_to, moved_image}
use Rattle.move_answer.specs.MoveAnswer.{refused_move}
use Rattle.reading_rules.specs.WordsLaws.{beside}
use Rattle.sheet.specs.Sheet.{count, offset, size, body_at}
use Rattle.sheet_bodies.specs.Set.{fields_of, set_by, set_image, Fits}
use Rattle.sheet_bodies.specs.SetLaws.{body_within}
use Rattle.setting.specs.Setting.{setting_fits, setting_part}
use Rattle.setting.specs.SettingLaws.{setting_accepted}
use Rattle.release_steps.specs.MoveStep.{unmoved_byte, moved_number, length_after, bytes_after, moved_reads, moved_on, moved_nowhere}
use Rattle.release_steps.specs.SetStep.{unset_byte, set_byte, length_after_set, bytes_after_set, set_reads, words_stay, read_after, set_empty, fits_alike}
use Rattle.release_steps.specs.Within.{Within}
use Rattle.release_steps.specs.TwoSteps.{fits_moved, commute, word_kept}
use Rattle.release.specs.Release.{releasing, two_steps, released_image}
use Rattle.release_judge.specs.Judged.{name_rules, release_rules}
use Rattle.release.specs.ReleaseLaws.{release_changed, release_shows, release_goes}
use Rattle.release.specs.Releasable.{Releasable}

-- ---- an accepted release, as two steps

module _ (xs s : List ℕ) (base : ℕ) (o : List ℕ) (owner : ℕ) (ok : (releasing xs s base o owner).number ≡ 0) where
  pub released_fits : Fits xs s
  released_fits = (release_shows xs s base o owner ok).fits

  pub released_legal : Holds (legal_base (length xs) base)
  released_legal = (release_shows xs s base o owner ok).legal

  -- the sheet's bytes are set, then the image is moved
  pub set_then_moved : released_image xs s base o owner ≡ moved_image (set_image xs s) base
  unfolding two_steps moved_image set_image
  set_then_moved =
      release_changed xs s base o owner ok
      ∙ ap (λ (r : Reading). move_to (set_by xs (reading2 xs) s) r base) (sym (set_reads xs s released_fits))

  legal_set : Holds (legal_base (length (set_image xs s)) base)
  legal_set = rw (length_after_set xs s released_fits) released_legal

  module _ (bx : Bytes xs) (bs : Bytes s) where
    bytes_set : Bytes (set_image xs s)
    bytes_set = bytes_after_set xs s released_fits bx bs

    -- the image is moved, then the sheet's bytes are set
    pub moved_then_set : released_image xs s base o owner ≡ set_image (moved_image xs base) s
    moved_then_set = set_then_moved ∙ sym (commute xs s base bx bs released_fits released_legal)

    -- the image afterwards reads as before but for the base, which is the new one
    pub released_reads : reading2 (released_image xs s base o owner) ≡ rebased (reading2 xs) base
    released_reads =
        ap (λ (l : List ℕ). reading2 l) set_then_moved ∙ moved_reads (set_image xs s) bytes_set (read_after xs s released_fits) base legal_set
        ∙ ap (λ (r : Reading). rebased r base) (set_reads xs s released_fits)

    pub length_released : length (released_image xs s base o owner) ≡ length xs
    length_released =
        ap (λ (l : List ℕ). length l) set_then_moved ∙ length_after (set_image xs s) bytes_set (read_after xs s released_fits) base legal_set
        ∙ length_after_set xs s released_fits

    pub bytes_released : Bytes (released_image xs s base o owner)
    bytes_released = rw set_then_moved (bytes_after (set_image xs s) bytes_set (read_after xs s released_fits) base legal_set)

    -- ---- which byte is whose

    -- a byte of an entry is its body's
    pub released_entry : (i j : ℕ) → i < count s → j < size s i
        → get_or (released_image xs s base o owner) ((reading2 xs).c + offset s i + j) 0 ≡ get_or s (body_at s i + j) 0
    released_entry i j hi hj =
        let c = ap (λ (r : Reading). r.c) (moved_reads xs bx released_fits.read base released_legal) in
        rw moved_then_set (rw c at (set_byte (moved_image xs base) s (fits_moved xs s base bx released_fits released_legal) i j hi hj))

    -- each word of the move holds old plus difference modulo its width
    pub released_word : (j : ℕ) → j < (moved_words xs).count
        → le ((moved_words xs).width j) (released_image xs s base o owner) ((moved_words xs).at j)
        ≡ (le ((moved_words xs).width j) xs ((moved_words xs).at j) + difference (reading2 xs).base base ((moved_words xs).width j))
        % 256 ^ (moved_words xs).width j
    released_word j h =
        let ys = set_image xs s in
        let w = (moved_words xs).at j in
        let m = (moved_words xs).width j in
        let d = difference (reading2 xs).base base m in
        let same : met ys (reading2 ys) ≡ met xs (reading2 xs) = words_stay xs s released_fits in
        let there : le m (moved_image ys base) w ≡ (le m ys w + d) % 256 ^ m =
        rw (same, set_reads xs s released_fits) at
        (moved_number ys bytes_set (read_after xs s released_fits) base legal_set j (rw same h)) in
        rw set_then_moved there
        ∙ ap (λ (v : ℕ). (v + d) % 256 ^ m) (le_cong m ys xs w (word_kept xs xs s released_fits.read released_fits refl refl j h))

    -- any other byte is what it was
    pub released_other : (k : ℕ) → Beside (fields_of (reading2 xs) s) (count s) k → Beside (moved_words xs) (moved_words xs).count k
        → get_or (released_image xs s base o owner) k 0 ≡ get_or xs k 0
    released_other k fields words =
        let ys = set_image xs s in
        let same : met ys (reading2 ys) ≡ met xs (reading2 xs) = words_stay xs s released_fits in
        rw set_then_moved (unmoved_byte ys bytes_set (read_after xs s released_fits) base legal_set k (rw same words))
        ∙ unset_byte xs s released_fits k fields

    -- ---- the sheet alone, the move alone

    -- an empty sheet only moves
    pub empty_moves : count s ≡ 0 → released_image xs s base o owner ≡ moved_image xs base
    empty_moves none = set_then_moved ∙ ap (λ (l : List ℕ). moved_image l base) (set_empty xs s released_fits none)

    -- the present base only sets
    pub present_sets : base ≡ (reading2 xs).base → released_image xs s base o owner ≡ set_image xs s
    present_sets e =
        let ys = set_image xs s in
        let same : base ≡ (reading2 ys).base = e ∙ sym (ap (λ (r : Reading). r.base) (set_reads xs s released_fits)) in
        set_then_moved ∙ ap (λ (b : ℕ). moved_image ys b) same ∙ moved_nowhere ys bytes_set (read_after xs s released_fits)

    -- a setting looked up afterwards that the sheet sets is the sheet's body
    pub setting_released : (i : ℕ) → i < count s
        → setting_part (released_image xs s base o owner) (offset s i) (size s i) ≡ take (size s i) (drop (body_at s i) s)
    setting_released i h =
        let ys = released_image xs s base o owner in
        let r = reading2 xs in
        let g = guaranteed xs released_fits.read in
        let f = released_fits.sound.fields i h in
        let b = body_within s r.z released_fits.sound i h in
        let read : Read2 ys = ap (λ (q : Reading). q.number) released_reads ∙ released_fits.read in
        let inside : Holds (setting_fits (offset s i) (size s i) (reading2 ys).z) =
        rw released_reads ((released_fits.sound.bodies.0 i h).0, f) in
        let room : r.c + offset s i + size s i ≤ length ys = rw length_released (omega (arith, g)) in
        (setting_accepted ys (offset s i) (size s i) read inside).1
        ∙ rw released_reads (ext_get_or 0 (take (size s i) (drop (r.c + offset s i) ys)) (take (size s i) (drop (body_at s i) s))
        (simp (length-take, length-drop) (omega arith))
        (λ k l.
        let hk : k < size s i = omega (arith, simp length-take at l) in
        get_or-take (size s i) (drop (r.c + offset s i) ys) k 0 hk ∙ get_or-drop (r.c + offset s i) ys k 0
        ∙ released_entry i k h hk
        ∙ sym (get_or-drop (body_at s i) s k 0) ∙ sym (get_or-take (size s i) (drop (body_at s i) s) k 0 hk)))

-- no byte is both an entry's and a word's
pub entry_beside : (xs s : List ℕ) → Fits xs s → (k : ℕ) → Within (reading2 xs) s k
    → Beside (moved_words xs) (moved_words xs).count k
entry_beside xs s fits k (i, h, low, high) =
    let g = guaranteed xs fits.read in
    let f = fits.sound.fields i h in
    beside xs (reading2 xs) g (moved_words xs).count k (omega arith) (inr (omega (arith, g))) (inr (omega arith, omega arith))

-- ---- there and back

-- an image that was released takes a sheet that it took before, to any base that is legal for it
pub goes_on : (xs s t : List ℕ) (base next : ℕ) (o p : List ℕ) (owner other : ℕ) → Bytes xs → Bytes s
    → (releasing xs s base o owner).number ≡ 0 → Releasable xs t next p other
    → (releasing (released_image xs s base o owner) t next p other).number ≡ 0
goes_on xs s t base next o p owner other bx bs ok takes =
    let ys = released_image xs s base o owner in
    let reads = released_reads xs s base o owner ok bx bs in
    let fits = takes.fits in
    let read : Read2 ys = ap (λ (r : Reading). r.number) reads ∙ fits.read in
    let z : (reading2 ys).z ≡ (reading2 xs).z = ap (λ (r : Reading). r.z) reads in
    release_goes ys t next p other
    (record {
      fits = fits_alike xs t fits ys read (ap (λ (r : Reading). r.identity) reads) z;
      good = rw z takes.good;
      own = takes.own;
      legal = rw (length_released xs s base o owner ok bx bs) takes.legal;
    })

-- an empty sheet takes the image to a base, and back
pub there_and_back : (xs s : List ℕ) (base : ℕ) (o : List ℕ) (owner : ℕ) → Bytes xs → Bytes s → count s ≡ 0
    → (releasing xs s base o owner).number ≡ 0
    → ((releasing (released_image xs s base o owner) s (reading2 xs).base o owner).number ≡ 0) ×
    (released_image (released_image xs s base o owner) s (reading2 xs).base o owner ≡ xs)
there_and_back xs s base o owner bx bs none ok =
    let ys = released_image xs s base o owner in
    let shown = release_shows xs s base o owner ok in
    let read = shown.fits.read in
    let home = (guaranteed xs read).legal in
    let back =
    goes_on xs s s base (reading2 xs).base o o owner owner bx bs ok
    (record { fits = shown.fits; good = shown.good; own = shown.own; legal = home }) in (
      back,
      empty_moves ys s (reading2 xs).base o owner back (bytes_released xs s base o owner ok bx bs) bs none
          ∙ ap (λ (l : List ℕ). moved_image l (reading2 xs).base) (empty_moves xs s base o owner ok bx bs none)
          ∙ moved_on xs bx read base shown.legal (reading2 xs).base home
          ∙ moved_nowhere xs bx read,
    )

-- ---- which numbers and indices a release answers

pub release_numbered : (xs s : List ℕ) (base : ℕ) (o : List ℕ) (owner : ℕ)
    → Numbered xs OwnRelease (releasing xs s base o owner).number (releasing xs s base o owner).index
unfolding releasing release_rules name_rules
release_numbered xs s base o owner =
    let own = own_number xs OwnRelease in
    after_every refused_move (λ (m : Moved). Numbered xs OwnRelease m.number m.index) (reading2 xs) _ (λ h. numbered_own2 xs OwnRelease (inl refl))
    (λ ok. (
      (λ h. own 15 (inr (inl (omega arith, omega arith)))),
      λ h. (
        (λ h. own 23 (inr (inr (omega arith, omega arith)))),
        λ h. (
          (λ h. own 16 (inr (inl (omega arith, omega arith)))),
          λ h. (
            (λ h. own 17 (inr (inl (omega arith, omega arith)))),
            λ h. (
              (λ h. own 24 (inr (inr (omega arith, omega arith)))),
              λ h. ((λ h. own 18 (inr (inl (omega arith, omega arith)))), λ h. own_zero xs OwnRelease),
            ),
          ),
        ),
      ),
    ))
