-- Document 02, #114: a release with the folded sheet.
-- Assumes nothing.
use Rattle.std.specs.Prelude.{ℕ, zero, suc, ◌+◌, ◌*◌, ◌≤◌, ◌<◌, List, [], ◌∷◌, ◌++◌, ◌≡◌, refl, length, take}
use Rattle.std.proofs.Common.{sym, ap, ◌∙◌, arith}
use Rattle.facts.specs.Fact.{Holds}
use Rattle.words.specs.Le.{le, Bytes}
use Rattle.sheet.specs.Sheet.{sheet_identity}
use Rattle.sheet.specs.ByteAt.{byte_at}
use Rattle.fold_pile.specs.Pile.{sheet_at, after, sheets, pile_identity, pile_number, Piled}
use Rattle.fold_pile.specs.PileLaws.{is_piled, first_there}
use Rattle.fold_cells.specs.SetAt.{set_at}
use Rattle.fold_cells.specs.ReachLaws.{bytes_part}
use Rattle.fold.specs.declared.Folded.{Folded}
use Rattle.fold.specs.Fold.{Folds}
use Rattle.fold_laws.specs.Theorems.{folded_passed, folded_fits, folded_sets, folded_names, folded_bytes}
use Rattle.release.specs.Release.{releasing, released_image}
use Rattle.fold_release.specs.Each.{released_each, EachAccepted}
use Rattle.fold_release.specs.EachLaws.{AllBytes, goes, answers_same, makes}

-- the sheets of a pile are bytes
piled_bytes : (p : List ℕ) → Bytes p → (at : ℕ) (ss : List (List ℕ)) → Piled p at ss → AllBytes ss
piled_bytes p b at [] d = omega arith
piled_bytes p b at (s ∷ ss) d = (rw d.0 (bytes_part p b (at + 4) (le 4 p at)), piled_bytes p b (after p at) ss d.3)

-- An accepted fold of the pile p, and an image that takes each of its sheets, one after another, to this base by this owner.
module _ (p q : List ℕ) (bytes : Bytes p) (r : Folded) (x : List ℕ) (made : Folds p q r x) (ok : r.number ≡ 0) (xs : List ℕ) (bx : Bytes xs)
    (base : ℕ) (o : List ℕ) (owner : ℕ) (each : EachAccepted xs (sheets p) base o owner) where
  abbrev sheet : List ℕ
  sheet = take r.size x

  passed : pile_number p ≡ 0
  passed = folded_passed p q bytes r x made ok

  -- what holds of the first sheet and the rest of them holds of the pile
  abbrev Claim : List (List ℕ) → Type 0
  Claim ss = ((releasing xs sheet base o owner).number ≡ 0) × (released_image xs sheet base o owner ≡ released_each xs ss base o owner)

  claim : (ss : List (List ℕ)) → sheets p ≡ ss → Piled p 0 ss → EachAccepted xs ss base o owner → Claim ss
  claim [] e d a = absurd (omega (arith, (first_there p passed).0))
  claim (s ∷ ss) e d a =
      let b = piled_bytes p bytes 0 (s ∷ ss) d in
      let bt = folded_bytes p q bytes r x made ok in
      let fits = folded_fits p q bytes r x made ok in
      let names : sheet_identity sheet ≡ sheet_identity s = folded_names p q bytes r x made ok ∙ ap sheet_identity (sym d.0) in
      let sets : (k : ℕ) → byte_at sheet k ≡ set_at (s ∷ ss) k = λ k. rw e at (folded_sets p q bytes r x made ok k) in
      (goes xs bx base o owner s ss b a sheet bt fits names sets, makes xs bx base o owner s ss b a sheet bt fits names sets)

  whole : Claim (sheets p)
  whole = claim (sheets p) refl (is_piled p passed) each

  -- Then the folded sheet is accepted too,
  pub fold_accepted : (releasing xs sheet base o owner).number ≡ 0
  fold_accepted = whole.0

  -- and makes the same image in one release.
  pub fold_release : released_image xs sheet base o owner ≡ released_each xs (sheets p) base o owner
  fold_release = whole.1
