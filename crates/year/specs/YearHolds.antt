-- The audit after any sequence of releases, proved.
-- Assumes nothing.
use Rattle.std.specs.Prelude.{ℕ, ◌+◌, ◌*◌, ◌≤◌, ◌<◌, true, List, ◌≡◌, length, get_or}
use Rattle.std.proofs.Common.{inl, inr, sym, ap, ◌∙◌, arith}
use Rattle.std.proofs.Math.Decide.{dec_lt}
use Rattle.facts.specs.Fact.{Holds}
use Rattle.facts.specs.FactLaws.{passes}
use Rattle.words.specs.Le.{Bytes}
use Rattle.header.specs.Base.{legal_base}
use Rattle.answers.specs.declared.Reading.{Reading}
use Rattle.reading_rules.specs.Reading.{reading2, Read2}
use Rattle.reading_rules.specs.Edition.{guaranteed}
use Rattle.reading_rules.specs.Settings.{OutsideSettings}
use Rattle.reading_rules.specs.WordsLaws.{beside}
use Rattle.move_image.specs.Moving.{moved_words, moved_image}
use Rattle.moves.specs.Moves.{Beside}
use Rattle.release_steps.specs.MoveStep.{unmoved_byte}
use Rattle.answers.specs.declared.Audited.{Audited}
use Rattle.audit_count.specs.Differences.{agrees, setting, settings, strays, bits, entry}
use Rattle.audit_count.specs.DifferenceLaws.{counts}
use Rattle.audit.specs.Audit.{shipped_base, reference, told_by, differing, auditing}
use Rattle.demands.specs.Calls.{Call, after_all}
use Rattle.demands.specs.CallsLaws.{accepted_leave}
use Rattle.demands.specs.Stored.{Store, in_places, in_bytes}
use Rattle.demands.specs.StoredLaws.{length_listed, place_is, place_kept, length_listed_bytes, bytes_are, byte_kept}
use Rattle.demands.specs.Editions.{read_too, told_two, reference_two}
use Rattle.demands.specs.Explains.{Explains}
use Rattle.demands.specs.Explained.{explains_base, explains_told, ascending, differs_at, all_listed, told_always, told_number, explained_strays}
use Rattle.demands.specs.MadeLaws.{made_explains}
use Rattle.year.specs.Year.{accepted, last_base, set_all, changed, Accounted, Year, YearImage, YearAlone}
use Rattle.year.specs.YearLaws.{Stands, year_stands, by_fold, same_differences, same_bits}

pub year_image : YearImage
year_image xs cs ms zs bx ok bs plays = (year_stands xs bx ok cs ms zs bs plays).is

pub year_alone : YearAlone
year_alone xs cs ms zs plays =
    let (same, left, picked) = by_fold xs cs ms zs plays in
    (same, left, left ∙ sym (accepted_leave xs cs) ∙ ap (λ (l : List Call). after_all xs l) (sym picked))

-- no word of a move lies in the settings part
setting_beside : (xs : List ℕ) → Read2 xs → (k : ℕ) → Holds (setting (reading2 xs) k) → Beside (moved_words xs) (moved_words xs).count k
setting_beside xs ok k (low, high) =
    let g = guaranteed xs ok in
    beside xs (reading2 xs) g (moved_words xs).count k (omega arith) (inr (omega (arith, g))) (inr (omega arith, omega arith))

-- ---- ws is the first image with the accepted sheets applied, zs is ws moved

module _ (xs : List ℕ) (cs : List Call) (zs : List ℕ) (bx : Bytes xs) (ok : Read2 xs)
    (st : Stands xs (set_all xs cs) (last_base (reading2 xs).base cs) zs) where
  abbrev ws : List ℕ
  ws = set_all xs cs

  abbrev base : ℕ
  base = last_base (reading2 xs).base cs

  explains : Explains xs zs base
  explains = (made_explains xs ok bx st.made).1

  named : base ≡ shipped_base xs zs
  named = explains_base xs zs bx ok base explains

  legal : Holds (legal_base (length xs) (shipped_base xs zs))
  legal = rw named at explains.legal

  reference_is : reference xs zs ≡ moved_image xs base
  reference_is = reference_two xs zs ok ∙ ap (λ (b : ℕ). moved_image xs b) (sym named)

  fine : Read2 ws
  fine = ap (λ (r : Reading). r.number) st.reads ∙ ok

  -- a setting is what the sheets made it, in the reference what it was
  set_there : (k : ℕ) → Holds (setting (reading2 xs) k) → (get_or zs k 0 ≡ get_or ws k 0) × (get_or (reference xs zs) k 0 ≡ get_or xs k 0)
  set_there k h = (
    ap (λ (l : List ℕ). get_or l k 0) st.is
        ∙ unmoved_byte ws st.bytes fine base (rw st.long st.legal) k (setting_beside ws fine k (rw st.reads h)),
    ap (λ (l : List ℕ). get_or l k 0) reference_is ∙ unmoved_byte xs bx ok base st.legal k (setting_beside xs ok k h),
  )

  -- the two pairs agree at the same positions
  alike : (k : ℕ)
      → (Holds (agrees (reference xs zs) zs k) → Holds (agrees xs ws k)) × (Holds (agrees xs ws k) → Holds (agrees (reference xs zs) zs k))
  alike k =
      elim (dec_lt k ((reading2 xs).c + 32)) [
        | yes low ↦ apart (inl low)
        | no low ↦
            elim (dec_lt k ((reading2 xs).c + (reading2 xs).z)) [
              | no high ↦ apart (inr (omega arith))
              | yes high ↦
                  let (here, there) = set_there k (omega arith, omega arith) in
                  ((λ e. sym here ∙ e ∙ there), λ e. here ∙ e ∙ sym there)
            ]
      ]
    where
      apart : OutsideSettings (reading2 xs) k
          → (Holds (agrees (reference xs zs) zs k) → Holds (agrees xs ws k)) × (Holds (agrees xs ws k) → Holds
          (agrees (reference xs zs) zs k))
      apart out = ((λ e. st.outside k out), λ e. explains.same k out ∙ ap (λ (l : List ℕ). get_or l k 0) (sym reference_is))

  -- so what the audit finds is what the sheets change
  found : differing xs zs ≡ changed xs cs
  unfolding differing
  found = same_differences (reference xs zs) zs xs ws 0 (length xs) alike

  found_bits : bits (reference xs zs) zs (reading2 xs) (differing xs zs) ≡ bits xs ws (reading2 xs) (changed xs cs)
  found_bits =
      same_bits (reference xs zs) zs xs ws (reading2 xs) set_there (differing xs zs) ∙ ap (λ (ks : List ℕ). bits xs ws (reading2 xs) ks) found

  -- each of these is a setting
  is_setting : (i : ℕ) → i < length (differing xs zs) → Holds (setting (reading2 xs) (get_or (differing xs zs) i 0))
  is_setting i h =
      let k = get_or (differing xs zs) i 0 in
      let differs = (differs_at xs zs i h).1 in
      elim (dec_lt k ((reading2 xs).c + 32)) [
        | yes low ↦ absurd (differs ((alike k).1 (st.outside k (inl low))))
        | no low ↦
            elim (dec_lt k ((reading2 xs).c + (reading2 xs).z)) [
              | no high ↦ absurd (differs ((alike k).1 (st.outside k (inr (omega arith)))))
              | yes high ↦ (omega arith, omega arith)
            ]
      ]

  plain : (k : ℕ) → Holds (setting (reading2 xs) k) → entry (reading2 xs) k ≡ k
  unfolding entry
  plain k h = rw (passes (setting (reading2 xs) k) h)

  -- ---- the answer and the list of a call with room for n entries, in any list that holds its entries so

  module _ (store : Store) (before : List ℕ) (a : Audited) (l : List ℕ) (answer : a ≡ auditing xs zs (store.room before))
      (marked : (auditing xs zs (store.room before)).number ≡ 0 → (i : ℕ) → i < length (differing xs zs)
      → store.entry l i ≡ entry (told_by xs) (get_or (differing xs zs) i 0))
      (after : (auditing xs zs (store.room before)).number ≡ 0 → (i : ℕ) → store.size * length (differing xs zs) ≤ i
      → get_or l i 0 ≡ get_or before i 0)
      (room : length (changed xs cs) ≤ store.room before) where
    abbrev n : ℕ
    n = store.room before

    room_found : length (differing xs zs) ≤ n
    room_found = rw found room

    goes : (auditing xs zs n).number ≡ 0
    goes = told_number xs zs n (read_too xs zs ok) explains.long legal room_found

    says : (auditing xs zs n).explained ≡ true
    says = (explains_told xs zs bx ok n explains.long legal room_found base explains).1

    -- no stray, so as many settings as differences
    as_many : (a.settings ≡ length (differing xs zs)) × (a.strays ≡ 0)
    as_many =
        let told = told_always xs zs n (read_too xs zs ok) explains.long legal in
        let none = explained_strays xs zs n (read_too xs zs ok) explains.long legal room_found says in
        let sum = counts (told_by xs) (differing xs zs) in
        (rw answer (told.1 ∙ omega arith), rw answer (told.2 ∙ none))

    at : (i : ℕ) → i < length (differing xs zs) → store.entry l i ≡ get_or (differing xs zs) i 0
    at i h = rw (told_two xs zs ok) at (marked goes i h) ∙ plain (get_or (differing xs zs) i 0) (is_setting i h)

    within : (i : ℕ) → i < a.settings → i < length (differing xs zs)
    within i h = rw as_many.0 at h

    listed_so : (i : ℕ) → i < a.settings → store.entry l i ≡ get_or (changed xs cs) i 0
    listed_so i h = at i (within i h) ∙ ap (λ (ks : List ℕ). get_or ks i 0) found

    ascends_so : (i j : ℕ) → i < j → j < a.settings → store.entry l i < store.entry l j
    ascends_so i j h g =
        let here = within j g in
        rw (at i (omega arith), at j here) (ascending xs zs i j h here)

    differs_so : (i : ℕ) → i < a.settings
        → (store.entry l i < length xs) × (get_or ws (store.entry l i) 0 ≡ get_or xs (store.entry l i) 0 → ⊥)
    differs_so i h =
        let (low, other) = differs_at xs zs i (within i h) in
        rw (at i (within i h)) (low, λ e. other ((alike (get_or (differing xs zs) i 0)).1 e))

    all_so : (k : ℕ) → k < length xs → (get_or ws k 0 ≡ get_or xs k 0 → ⊥) → (i : ℕ) × (i < a.settings) × (store.entry l i ≡ k)
    all_so k h other =
        let (i, g, e) = all_listed xs zs k h (λ same. other ((alike k).0 same)) in
        (i, rw as_many.0 g, at i g ∙ e)

    kept_so : (i : ℕ) → store.size * a.settings ≤ i → get_or l i 0 ≡ get_or before i 0
    kept_so i h = after goes i (rw as_many.0 at h)

    accounted : length l ≡ length before → Accounted store xs cs before a l
    accounted as_long =
        let told = told_always xs zs n (read_too xs zs ok) explains.long legal in
        let by_two = told_two xs zs ok in
        record {
          number = rw answer goes;
          explained = rw answer says;
          base = rw answer told.0 ∙ sym named;
          settings_true = rw answer told.1 ∙ ap (λ (r : Reading). settings r (differing xs zs)) by_two ∙ ap (λ (ks : List ℕ). settings (reading2 xs) ks) found;
          strays_true = rw answer told.2 ∙ ap (λ (r : Reading). strays r (differing xs zs)) by_two ∙ ap (λ (ks : List ℕ). strays (reading2 xs) ks) found;
          bits_true = rw answer told.3 ∙ ap (λ (r : Reading). bits (reference xs zs) zs r (differing xs zs)) by_two ∙ found_bits;
          all_settings = (as_many.0 ∙ ap (λ (ks : List ℕ). length ks) found, as_many.1);
          listed = listed_so;
          ascends = ascends_so;
          differs = differs_so;
          all = all_so;
          kept = kept_so;
          long = as_long;
        }

pub year : Year
year = (
  (λ xs cs ms zs before a l bx ok bs plays is room.
      accounted xs (accepted cs ms) zs bx ok (year_stands xs bx ok cs ms zs bs plays) in_places before a l is.0
      (λ z. rw is.1 (place_is xs zs before z)) (λ z i h. rw is.1 (place_kept xs zs before z i (omega arith))) room
      (ap length is.1 ∙ length_listed xs zs before)),
  (λ xs cs ms zs before a l bx ok bs plays is room.
      accounted xs (accepted cs ms) zs bx ok (year_stands xs bx ok cs ms zs bs plays) in_bytes before a l is.0
      (λ z. rw is.1 (bytes_are xs zs before z)) (λ z. rw is.1 (byte_kept xs zs before z)) room
      (ap length is.1 ∙ length_listed_bytes xs zs before)),
)
