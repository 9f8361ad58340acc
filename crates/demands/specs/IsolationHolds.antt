-- Request #106: isolation, nobody's bytes and what a move shows hold.
-- Assumes nothing.
use Rattle.std.specs.Prelude.{ℕ, zero, suc, ◌+◌, ◌-◌, ◌%◌, ◌^◌, ◌≤◌, ◌<◌, Bool, cond, ◌⊎◌, ◌≡◌, length, get_or, true, false, List, [], ◌∷◌, refl, eqb}
use Rattle.std.proofs.Common.{inl, inr, sym, ap, ◌∙◌, arith, eqb-true}
use Rattle.std.proofs.Math.Decide.{ℕ_discrete, dec_lt}
use Rattle.facts.specs.Fact.{test, Holds}
use Rattle.facts.specs.FactLaws.{holds, fails_not}
use Rattle.words.specs.Le.{le, Bytes, Alike}
use Rattle.words.specs.LeLaws.{le_cong}
use Rattle.words.specs.PutLaws.{le_one}
use Rattle.answers.specs.declared.Reading.{Reading}
use Rattle.reading_rules.specs.Words.{met}
use Rattle.reading_rules.specs.Reading.{rebased, reading2, Read2}
use Rattle.reading_rules.specs.Edition.{guaranteed}
use Rattle.answers.specs.declared.Moved.{Moved}
use Rattle.moves.specs.Moves.{difference, Beside}
use Rattle.moves.specs.MovesLaws.{find}
use Rattle.move_image.specs.Moving.{moved_words}
use Rattle.move_image.specs.MovingLaws.{same_words}
use Rattle.reading_rules.specs.WordsLaws.{words_outside, beside}
use Rattle.reading_rules.specs.Settings.{OutsideSettings}
use Rattle.sheet.specs.Sheet.{count, offset}
use Rattle.sheet_bodies.specs.Set.{fields_of, set_image}
use Rattle.owners.specs.Owners.{ranges, range_at, holds_byte, list_fits, owned}
use Rattle.owners.specs.OwnersLaws.{ranges_ascend}
use Rattle.release_steps.specs.SetStep.{unset_byte, length_after_set, bytes_after_set, set_reads, read_after}
use Rattle.release_steps.specs.Within.{Within}
use Rattle.release.specs.Release.{releasing, released_image}
use Rattle.release.specs.ReleaseLaws.{release_unread, release_kept, release_shows}
use Rattle.release_laws.specs.Theorems.{released_reads, length_released, bytes_released, released_entry, released_word, released_other, present_sets}
use Rattle.demands.specs.Calls.{Call, after, after_all, answers, SheetBytes}
use Rattle.demands.specs.Isolation.{Isolation, Keeps, Nobody's, NotOf, OneList, Seen, Theirs, answers_but, without}

-- ---- it holds

-- an owner's byte lies in the settings part
owned_inside : (o : List ℕ) (z w j : ℕ) → Holds (list_fits o z) → Holds (owned o w j) → (32 ≤ j) × (j < z)
owned_inside o z w j good mine =
    elim (dec_lt j 32) [
      | yes low ↦ absurd (mine (λ i h is. omega (arith, is.1.0, first i h)))
      | no low ↦ elim (dec_lt j z) [
        | yes high ↦ (omega arith, high)
        | no high ↦ absurd (mine (λ i h is. omega (arith, is.1.1, (good.1.1 i h).1.1.0)))
      ]
    ]
  where
    first : (i : ℕ) → i < ranges o → 32 ≤ (range_at o i).offset
    first zero h = (good.1.1 0 h).1.0
    first (suc i) h = omega (arith, ranges_ascend o z good (suc i) 0 (omega arith) h, (good.1.1 0 (omega arith)).1.0)

module _ (xs s : List ℕ) (base : ℕ) (o : List ℕ) (owner : ℕ) (ok : (releasing xs s base o owner).number ≡ 0) where
  -- a byte of an entry of an accepted release is the caller's
  entry_owned : (k : ℕ) → Within (reading2 xs) s k → (j : ℕ) → k ≡ (reading2 xs).c + j → Holds (owned o owner j)
  entry_owned k (i, h, low, high) j e =
      let at : offset s i + (j - offset s i) ≡ j = omega arith in
      rw at at ((release_shows xs s base o owner ok).own i h (j - offset s i) (omega arith))

  -- so a byte that isn't the caller's lies in no entry
  beside_entries : (k : ℕ) → NotOf o owner (reading2 xs).c k → Beside (fields_of (reading2 xs) s) (count s) k
  beside_entries k not =
      elim (find (fields_of (reading2 xs) s) (count s) k) [
        | inl (i, h, low, high) ↦
            let e : k ≡ (reading2 xs).c + (k - (reading2 xs).c) = omega arith in
            absurd (not (k - (reading2 xs).c) e (entry_owned k (i, h, low, high) (k - (reading2 xs).c) e))
        | inr out ↦ out
      ]

-- two images, one of which may have had releases by w that the other hadn't
record Together (o : List ℕ) (w region : ℕ) (ys zs : List ℕ) : Type 0 where
  left_bytes : Bytes ys
  right_bytes : Bytes zs
  read : Read2 ys
  reads : reading2 ys ≡ reading2 zs
  long : length ys ≡ length zs
  at : (reading2 ys).c ≡ region
  same : (k : ℕ) → NotOf o w region k → get_or ys k 0 ≡ get_or zs k 0

-- ---- one of w's own, on one side

own_step : (o : List ℕ) (w region : ℕ) (ys zs s : List ℕ) (base : ℕ) → Together o w region ys zs → Bytes s
    → ((releasing ys s base o w).number ≡ 0 → base ≡ (reading2 ys).base)
    → Together o w region (released_image ys s base o w) zs
own_step o w region ys zs s base t bs keeps =
    elim (ℕ_discrete (releasing ys s base o w).number 0) [
      | no h ↦ rw (release_kept ys s base o w h) t
      | yes ok ↦ rw (present_sets ys s base o w ok t.left_bytes bs (keeps ok)) (set ok)
    ]
  where
    set : (releasing ys s base o w).number ≡ 0 → Together o w region (set_image ys s) zs
    set ok =
        let fits = (release_shows ys s base o w ok).fits in
        record {
          left_bytes = bytes_after_set ys s fits t.left_bytes bs;
          right_bytes = t.right_bytes;
          read = read_after ys s fits;
          reads = set_reads ys s fits ∙ t.reads;
          long = length_after_set ys s fits ∙ t.long;
          at = ap (λ (r : Reading). r.c) (set_reads ys s fits) ∙ t.at;
          same = λ k not. unset_byte ys s fits k (beside_entries ys s base o w ok k (rw t.at not)) ∙ t.same k not;
        }

-- ---- any other, on both

-- both sides give one answer
same_answer : (ys zs s : List ℕ) (base : ℕ) (o : List ℕ) (owner : ℕ) → reading2 ys ≡ reading2 zs → length ys ≡ length zs
    → releasing ys s base o owner ≡ releasing zs s base o owner
unfolding releasing
same_answer ys zs s base o owner reads long = rw (reads, long)

module _ (o : List ℕ) (w region : ℕ) (ys zs s : List ℕ) (base owner : ℕ) (t : Together o w region ys zs) (bs : Bytes s)
    (ok : (releasing ys s base o owner).number ≡ 0) where
  ok' : (releasing zs s base o owner).number ≡ 0
  ok' = ap (λ (m : Moved). m.number) (sym (same_answer ys zs s base o owner t.reads t.long)) ∙ ok

  good : Holds (list_fits o (reading2 ys).z)
  good = (release_shows ys s base o owner ok).good.0

  -- a byte outside the settings part is nobody's
  out_of_part : (k : ℕ) → OutsideSettings (reading2 ys) k → NotOf o w region k
  out_of_part k (inl low) j e mine = omega (arith, t.at, owned_inside o (reading2 ys).z w j good mine)
  out_of_part k (inr high) j e mine = omega (arith, t.at, owned_inside o (reading2 ys).z w j good mine)

  -- the words are the same
  words_same : met zs (reading2 zs) ≡ met ys (reading2 ys)
  words_same =
      same_words ys zs t.read (record { long = t.long; same = λ k words out. t.same k (out_of_part k out) }) (sym t.reads)

  -- and hold the same numbers
  word_same : (j : ℕ) → j < (moved_words ys).count → Alike ys zs ((moved_words ys).at j) ((moved_words ys).width j)
  word_same j h = go (words_outside ys (reading2 ys) (guaranteed ys t.read) j h)
    where
      p : ℕ
      p = (moved_words ys).at j

      m : ℕ
      m = (moved_words ys).width j

      go : (p + m ≤ (reading2 ys).c) ⊎ ((reading2 ys).c + (reading2 ys).z ≤ p) → Alike ys zs p m
      go (inl a) = record { same = λ k l. t.same (p + k) (out_of_part (p + k) (inl (omega arith))) }
      go (inr a) = record { same = λ k l. t.same (p + k) (out_of_part (p + k) (inr (omega arith))) }

  abbrev ys' : List ℕ
  ys' = released_image ys s base o owner

  abbrev zs' : List ℕ
  zs' = released_image zs s base o owner

  by' : Bytes ys'
  by' = bytes_released ys s base o owner ok t.left_bytes bs

  bz' : Bytes zs'
  bz' = bytes_released zs s base o owner ok' t.right_bytes bs

  -- each word afterwards
  number : (j : ℕ) → j < (moved_words ys).count
      → le ((moved_words ys).width j) ys' ((moved_words ys).at j) ≡ le ((moved_words ys).width j) zs' ((moved_words ys).at j)
  number j h =
      let p = (moved_words ys).at j in
      let m = (moved_words ys).width j in
      let d = difference (reading2 ys).base base m in
      let there : le m zs' p ≡ (le m zs p + d) % 256 ^ m =
      rw (words_same, ← t.reads) at (released_word zs s base o owner ok' t.right_bytes bs j (rw words_same h)) in
      released_word ys s base o owner ok t.left_bytes bs j h
      ∙ ap (λ (v : ℕ). (v + d) % 256 ^ m) (le_cong m ys zs p (word_same j h))
      ∙ sym there

  -- each byte afterwards
  byte : (k : ℕ) → NotOf o w region k → get_or ys' k 0 ≡ get_or zs' k 0
  byte k not = fields (find (fields_of (reading2 ys) s) (count s) k)
    where
      word : Beside (fields_of (reading2 ys) s) (count s) k
          → ((j : ℕ) × (j < (moved_words ys).count) × ((moved_words ys).at j ≤ k) × (k < (moved_words ys).at j + (moved_words ys).width j)) ⊎ Beside
          (moved_words ys) (moved_words ys).count k
          → get_or ys' k 0 ≡ get_or zs' k 0
      word out (inl (j, h, low, high)) =
          let p = (moved_words ys).at j in
          let e : p + (k - p) ≡ k = omega arith in
          rw e at ((le_one ((moved_words ys).width j) ys' zs' p by' bz' (number j h)).same (k - p) (omega arith))
      word out (inr words) =
          released_other ys s base o owner ok t.left_bytes bs k out words
          ∙ t.same k not
          ∙ sym (released_other zs s base o owner ok' t.right_bytes bs k (rw (← t.reads) out) (rw words_same words))

      fields : Within (reading2 ys) s k ⊎ Beside (fields_of (reading2 ys) s) (count s) k → get_or ys' k 0 ≡ get_or zs' k 0
      fields (inl (i, h, low, high)) =
          let j = k - ((reading2 ys).c + offset s i) in
          let e : (reading2 ys).c + offset s i + j ≡ k = omega arith in
          let here = released_entry ys s base o owner ok t.left_bytes bs i j h (omega arith) in
          let there = rw (← t.reads) at (released_entry zs s base o owner ok' t.right_bytes bs i j h (omega arith)) in
          rw e at (here ∙ sym there)
      fields (inr out) = word out (find (moved_words ys) (moved_words ys).count k)

  both_released : Together o w region ys' zs'
  both_released =
      let ry = released_reads ys s base o owner ok t.left_bytes bs in
      let rz = released_reads zs s base o owner ok' t.right_bytes bs in
      record {
        left_bytes = by';
        right_bytes = bz';
        read = ap (λ (r : Reading). r.number) ry ∙ t.read;
        reads = ry ∙ ap (λ (r : Reading). rebased r base) t.reads ∙ sym rz;
        long = length_released ys s base o owner ok t.left_bytes bs ∙ t.long
            ∙ sym (length_released zs s base o owner ok' t.right_bytes bs);
        at = ap (λ (r : Reading). r.c) ry ∙ t.at;
        same = byte;
      }

both_step : (o : List ℕ) (w region : ℕ) (ys zs s : List ℕ) (base owner : ℕ) → Together o w region ys zs → Bytes s
    → Together o w region (released_image ys s base o owner) (released_image zs s base o owner)
both_step o w region ys zs s base owner t bs =
    elim (ℕ_discrete (releasing ys s base o owner).number 0) [
      | yes ok ↦ both_released o w region ys zs s base owner t bs ok
      | no h ↦
          let n = ap (λ (m : Moved). m.number) (same_answer ys zs s base o owner t.reads t.long) in
          rw (release_kept ys s base o owner h, release_kept zs s base o owner (λ z. h (n ∙ z))) t
    ]

-- ---- a whole sequence

-- the two sides after it
record Ended (o : List ℕ) (w region : ℕ) (ys zs : List ℕ) (cs : List Call) : Type 0 where
  told : answers_but w ys cs ≡ answers zs (without w cs)
  ends : Together o w region (after_all ys cs) (after_all zs (without w cs))

sequence : (o : List ℕ) (w region : ℕ) (cs : List Call) (ys zs : List ℕ) → Together o w region ys zs → SheetBytes cs → OneList o cs
    → Keeps w ys cs → Ended o w region ys zs cs
unfolding after_all answers answers_but without Keeps SheetBytes OneList
sequence o w region [] ys zs t b one k = record { told = refl; ends = t }
sequence o w region (c ∷ cs) ys zs t (bs, b) (list, one) (keeps, k) =
    go (eqb c.owner w) refl (λ zs₁ t₁. sequence o w region cs (after ys c) zs₁ t₁ b one k)
  where
    go : (e : Bool) → eqb c.owner w ≡ e → ((zs₁ : List ℕ) → Together o w region (after ys c) zs₁ → Ended o w region (after ys c) zs₁ cs)
        → Ended o w region ys zs (c ∷ cs)
    go true e more =
        let own : c.owner ≡ w = eqb-true c.owner w e in
        let step : Together o w region (after ys c) zs =
        rw (list, own) (own_step o w region ys zs c.sheet c.base t bs (rw (list, own) at (keeps own))) in
        let rest = more zs step in
        record { told = rw e rest.told; ends = rw e rest.ends }
    go false e more =
        let step : Together o w region (after ys c) (after zs c) =
        rw list (both_step o w region ys zs c.sheet c.base c.owner t bs) in
        let rest = more (after zs c) step in
        let a = same_answer ys zs c.sheet c.base c.list c.owner t.reads t.long in
        record { told = rw (e, a, rest.told); ends = rw e rest.ends }

-- ---- an image and a list with which every release is refused: nothing changes

module _ (xs o : List ℕ) (none : (s : List ℕ) (base owner : ℕ) → (releasing xs s base o owner).number ≡ 0 → ⊥) where
  stays : (c : Call) → c.list ≡ o → after xs c ≡ xs
  stays c list = rw list (release_kept xs c.sheet c.base o c.owner (none c.sheet c.base c.owner))

  all_stays : (cs : List Call) → OneList o cs → after_all xs cs ≡ xs
  unfolding after_all OneList
  all_stays [] one = refl
  all_stays (c ∷ cs) (list, one) = rw (stays c list) (all_stays cs one)

  one_without : (w : ℕ) (cs : List Call) → OneList o cs → OneList o (without w cs)
  unfolding OneList without
  one_without w [] one = one
  one_without w (c ∷ cs) (list, one) = go (eqb c.owner w) (one_without w cs one)
    where
      go : (e : Bool) → OneList o (without w cs) → OneList o (cond e (without w cs) (c ∷ without w cs))
      go true more = more
      go false more = (list, more)

  all_answers : (w : ℕ) (cs : List Call) → OneList o cs → answers_but w xs cs ≡ answers xs (without w cs)
  unfolding answers_but answers without OneList
  all_answers w [] one = refl
  all_answers w (c ∷ cs) (list, one) = go (eqb c.owner w) refl (all_answers w cs one)
    where
      go : (e : Bool) → eqb c.owner w ≡ e → answers_but w xs cs ≡ answers xs (without w cs)
          → answers_but w xs (c ∷ cs) ≡ answers xs (without w (c ∷ cs))
      go true e more = rw (e, stays c list) more
      go false e more = rw (e, stays c list, more)

  pub nothing_sent : (w : ℕ) (cs : List Call) → OneList o cs → after_all xs cs ≡ after_all xs (without w cs)
  nothing_sent w cs one = all_stays cs one ∙ sym (all_stays (without w cs) (one_without w cs one))

pub isolation : Isolation
isolation xs o w cs bx bs one keeps =
    elim (ℕ_discrete (reading2 xs).number 0) [
      | yes ok ↦
          let start : Together o w (reading2 xs).c xs xs =
          record { left_bytes = bx; right_bytes = bx; read = ok; reads = refl; long = refl; at = refl; same = λ k not. refl } in
          let r = sequence o w (reading2 xs).c cs xs xs start bs one keeps in
          record { same_answers = r.told; same_reading = r.ends.reads; same_length = r.ends.long; same_bytes = r.ends.same }
      | no h ↦
          let none : (s : List ℕ) (base owner : ℕ) → (releasing xs s base o owner).number ≡ 0 → ⊥ =
          (λ s base owner z. h (sym (ap (λ (m : Moved). m.number) (release_unread xs s base o owner h)) ∙ z)) in
          let e = nothing_sent xs o none w cs one in
          record {
            same_answers = all_answers xs o none w cs one;
            same_reading = ap (λ (l : List ℕ). reading2 l) e;
            same_length = ap (λ (l : List ℕ). length l) e;
            same_bytes = λ k not. ap (λ (l : List ℕ). get_or l k 0) e;
          }
    ]

-- a byte has one owner, by a good list
one_owner : (o : List ℕ) (z u w j : ℕ) → Holds (list_fits o z) → (u ≡ w → ⊥) → Holds (owned o u j) → Holds (owned o w j) → ⊥
one_owner o z u w j good other mine theirs = mine (λ i h is. theirs (λ k g at. go i h is k g at))
  where
    go : (i : ℕ) → i < ranges o → Holds (holds_byte o u j i) → (k : ℕ) → k < ranges o → Holds (holds_byte o w j k) → ⊥
    go i h is k g at =
        elim (dec_lt i k) [
          | yes l ↦ omega (arith, ranges_ascend o z good k i l g, is.1.1, at.1.0)
          | no l ↦ elim (dec_lt k i) [
            | yes m ↦ omega (arith, ranges_ascend o z good i k m h, at.1.1, is.1.0)
            | no m ↦ let e : i ≡ k = omega arith in other (sym is.0 ∙ rw e at.0)
          ]
        ]

pub theirs : Theirs
theirs xs o w u cs other bx bs one keeps j mine = go (test (list_fits o (reading2 xs).z)) refl
  where
    go : (b : Bool) → test (list_fits o (reading2 xs).z) ≡ b
        → get_or (after_all xs cs) ((reading2 xs).c + j) 0 ≡ get_or (after_all xs (without w cs)) ((reading2 xs).c + j) 0
    go true e =
        (isolation xs o w cs bx bs one keeps).same_bytes ((reading2 xs).c + j)
        (λ i at own. let same : j ≡ i = omega arith in
        one_owner o (reading2 xs).z u w i (holds (list_fits o (reading2 xs).z) e) other (rw same at mine) own)
    go false e =
        let none : (s : List ℕ) (base owner : ℕ) → (releasing xs s base o owner).number ≡ 0 → ⊥ =
        (λ s base owner z. fails_not (list_fits o (reading2 xs).z) e (release_shows xs s base o owner z).good.0) in
        ap (λ (l : List ℕ). get_or l ((reading2 xs).c + j) 0) (nothing_sent xs o none w cs one)

pub seen : Seen
seen xs s base o owner bx bs ok = (
  released_reads xs s base o owner ok bx bs,
  λ k not words. released_other xs s base o owner ok bx bs k (beside_entries xs s base o owner ok k not) words,
)

pub nobody's : Nobody's
nobody's xs s base o owner bx bs read j low high not-1 not-2 =
    elim (ℕ_discrete (releasing xs s base o owner).number 0) [
      | no h ↦ ap (λ (l : List ℕ). get_or l ((reading2 xs).c + j) 0) (release_kept xs s base o owner h)
      | yes ok ↦ accepted ok (release_shows xs s base o owner ok).good.1
    ]
  where
    not_own : (w : ℕ) → (Holds (owned o w j) → ⊥) → NotOf o w (reading2 xs).c ((reading2 xs).c + j)
    not_own w none i e mine = let same : j ≡ i = omega arith in none (rw same mine)

    words : Beside (moved_words xs) (moved_words xs).count ((reading2 xs).c + j)
    words =
        let g = guaranteed xs read in
        beside xs (reading2 xs) g (moved_words xs).count ((reading2 xs).c + j) (omega arith) (inr (omega (arith, g)))
        (inr (omega arith, omega arith))

    accepted : (releasing xs s base o owner).number ≡ 0 → (owner ≡ 1) ⊎ (owner ≡ 2)
        → get_or (released_image xs s base o owner) ((reading2 xs).c + j) 0 ≡ get_or xs ((reading2 xs).c + j) 0
    accepted ok (inl e) = (seen xs s base o owner bx bs ok).1 ((reading2 xs).c + j) (rw e (not_own 1 not-1)) words
    accepted ok (inr e) = (seen xs s base o owner bx bs ok).1 ((reading2 xs).c + j) (rw e (not_own 2 not-2)) words
