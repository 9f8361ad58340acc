-- The folded sheet of what is set below a position alone: from there on nothing is added.
-- Assumes nothing.
use Prim.Native.Nat.{ℕ, zero, suc, ◌+◌, ◌-◌, ◌*◌, ◌≤◌, ◌<◌}
use Rattle.std.specs.Prelude.{List, [], ◌∷◌, ◌++◌, ◌≡◌, refl, length}
use Rattle.std.proofs.Math.Path.{sym}
use Rattle.std.proofs.Common.{ap, ◌∙◌}
use native.Mathlib.Omega.{arith}
use Rattle.facts.specs.Fact.{Fact, Holds, every, ◌≤?◌}
use Rattle.answers.specs.declared.Identity.{Identity}
use Rattle.sheet.specs.Sheet.{count, offset, size}
use Rattle.sheet.specs.ByteAt.{byte_at}
use Rattle.sheet.specs.ByteAtLaws.{by_none}
use Rattle.fold_pile.specs.Pile.{pile_number, pile_identity}
use Rattle.fold_cells.specs.Cells.{last, Unset}
use Rattle.fold_tally.specs.declared.Tally.{Tally}
use Rattle.fold_tally.specs.Tally.{tally_to, tally_of}
use Rattle.fold_tally.specs.TallyLaws.{quiet}
use Rattle.fold_sheet.specs.Folded.{header, ending, entries_to, body, bodies_to, sheet_of, size_of, onto}
use Rattle.fold.specs.Fold.{pile_sets, has_room, folded_sheet, Folds}
use Rattle.fold.specs.FoldLaws.{folds_done}

append_none : (es : List ℕ) → es ++ [] ≡ es
append_none [] = refl
append_none (e ∷ es) = ap (λ (l : List ℕ). e ∷ l) (append_none es)

module _ (f : ℕ → ℕ) (a : ℕ) (none : (k : ℕ) → a ≤ k → f k ≡ 0) where
  unset : (n : ℕ) → Unset f a (a + suc n)
  unset n = record { up = omega arith; none = λ k g h. none k g }

  run_after : (n : ℕ) → (tally_to f (a + suc n)).run ≡ 0
  run_after n = ap (λ (t : Tally). t.run) (quiet f a n (unset n))

  entries_after : (m n : ℕ) → entries_to m f (a + suc n) ≡ entries_to m f (suc a)
  unfolding entries_to
  entries_after m zero = let e : a + 1 ≡ suc a = omega arith in rw e
  entries_after m (suc n) =
      let e : a + suc (suc n) ≡ suc (a + suc n) = omega arith in
      rw (e, none (a + suc n) (omega arith), run_after n, append_none (entries_to m f (a + suc n))) (entries_after m n)

  bodies_after : (n : ℕ) → bodies_to f (a + suc n) ≡ bodies_to f (suc a)
  unfolding bodies_to
  bodies_after zero = let e : a + 1 ≡ suc a = omega arith in rw e
  bodies_after (suc n) =
      let e : a + suc (suc n) ≡ suc (a + suc n) = omega arith in
      rw (e, none (a + suc n) (omega arith), append_none (bodies_to f (a + suc n))) (bodies_after n)

  module _ (low : a < last) where
    is_last : a + suc (last - suc a) ≡ last
    is_last = omega arith

    pub tally_up_to : tally_of f ≡ tally_to f (suc a)
    unfolding tally_of
    tally_up_to =
        let n : ℕ = last - suc a in
        let e : a + 1 ≡ suc a = omega arith in
        (rw is_last at (quiet f a n (unset n))) ∙ sym (rw e at (quiet f a 0 (unset 0)))

    pub sheet_up_to : (i : Identity)
        → sheet_of i f ≡ header i (tally_to f (suc a)).runs ++ (entries_to (tally_to f (suc a)).runs f (suc a) ++ bodies_to f (suc a))
    unfolding sheet_of
    sheet_up_to i =
        let n : ℕ = last - suc a in
        rw (tally_up_to, rw is_last at (entries_after (tally_to f (suc a)).runs n), rw is_last at (bodies_after n))

-- a sheet whose entries all end by e sets nothing from there on
pub nothing_from : (s : List ℕ) (e : ℕ) → Holds (every (count s) (λ i. offset s i + size s i ≤? e)) → (k : ℕ) → e ≤ k → byte_at s k ≡ 0
unfolding byte_at
nothing_from s e ends k h = by_none s (count s) k (λ i l c. omega (arith, ends i l, c.1))

-- the fold of a pile that sets nothing from a on, by what is counted and written up to there
module _ (p : List ℕ) (passes : pile_number p ≡ 0) (a : ℕ) (none : (k : ℕ) → a ≤ k → pile_sets p k ≡ 0) (low : a < last) (m n : ℕ) (one : List ℕ)
    (counted : tally_to (pile_sets p) (suc a) ≡ record { run = 0; runs = m; bytes = n })
    (written : header (pile_identity p) m ++ (entries_to m (pile_sets p) (suc a) ++ bodies_to (pile_sets p) (suc a)) ≡ one) (few : m ≤ 256)
    (short : 16 + 8 * m + n ≤ 65535) where
  count_is : tally_of (pile_sets p) ≡ record { run = 0; runs = m; bytes = n }
  count_is = tally_up_to (pile_sets p) a none low ∙ counted

  size_is : size_of (pile_sets p) ≡ 16 + 8 * m + n
  unfolding size_of
  size_is = rw count_is

  is_one : folded_sheet p ≡ one
  unfolding folded_sheet
  is_one = sheet_up_to (pile_sets p) a none low (pile_identity p) ∙ rw counted written

  pub computed : (o : List ℕ) → 16 + 8 * m + n ≤ length o
      → Folds p o (record { number = 0; size = 16 + 8 * m + n; entries = m }) (onto one o)
  computed o room =
      let has : Holds (has_room (pile_sets p) (length o)) = rw (count_is, size_is) (few, (short, room)) in
      rw (count_is, size_is, is_one) at (folds_done p o passes has)
