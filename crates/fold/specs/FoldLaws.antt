-- How the rules of a fold go.
-- Assumes nothing.
use Rattle.std.specs.Prelude.{ℕ, List, ◌≡◌, length}
use Rattle.std.proofs.Common.{sym, ◌∙◌, arith}
use borrow.Author.Tests.{ne_eqb}
use Rattle.facts.specs.Fact.{Holds}
use Rattle.facts.specs.FactLaws.{passes, fails}
use Rattle.facts.specs.Rules.{run}
use Rattle.fold_pile.specs.Pile.{pile_number}
use Rattle.fold_pile.specs.PileLaws.{pile_then, pile_refused}
use Rattle.fold_tally.specs.declared.Tally.{Tally}
use Rattle.fold_tally.specs.Tally.{tally_of, Counted}
use Rattle.fold_sheet.specs.Folded.{size_of, onto}
use Rattle.fold_room.specs.RoomBy.{room_by}
use Rattle.fold_room.specs.RoomLaws.{room_exact}
use Rattle.fold.specs.Fold.{pile_sets, has_room, refused_fold, fold_rules, folding, folded_sheet, folded_into, Folds}

-- ---- the three outcomes

module _ (p o : List ℕ) where
  folds_not : (k : ℕ) → (k ≡ 0 → ⊥) → folding p (length o) ≡ refused_fold k 0 → Folds p o (refused_fold k 0) o
  unfolding folded_into
  folds_not k bad e = (sym e, rw (e, ne_eqb k 0 bad))

  pub folds_bad : (k : ℕ) → k ≡ pile_number p → (k ≡ 0 → ⊥) → Folds p o (refused_fold k 0) o
  unfolding folding fold_rules
  folds_bad k e bad = rw e (folds_not (pile_number p) (λ z. bad (e ∙ z)) (pile_refused refused_fold p _ (λ z. bad (e ∙ z))))

  pub folds_full : pile_number p ≡ 0 → (Holds (has_room (pile_sets p) (length o)) → ⊥) → Folds p o (refused_fold 29 0) o
  unfolding folding fold_rules run
  folds_full ok full =
      folds_not 29 (λ z. omega arith)
      (pile_then refused_fold p _ ok ∙ rw (fails (has_room (pile_sets p) (length o)) full))

  pub folds_done : pile_number p ≡ 0 → Holds (has_room (pile_sets p) (length o))
      → Folds p o (record { number = 0; size = size_of (pile_sets p); entries = (tally_of (pile_sets p)).runs }) (onto (folded_sheet p) o)
  unfolding folding fold_rules run folded_into
  folds_done ok room =
      let e : folding p (length o) ≡ record { number = 0; size = size_of (pile_sets p); entries = (tally_of (pile_sets p)).runs } =
      pile_then refused_fold p _ ok ∙ rw (passes (has_room (pile_sets p) (length o)) room) in
      (sym e, rw e)

-- ---- 29 by what was counted

module _ (f : ℕ → ℕ) (t : Tally) (c : Counted f t) (room : ℕ) where
  pub room_yes : Holds (room_by t room) → Holds (has_room f room)
  unfolding size_of
  room_yes h = rw (room_exact f t c room h) at h

  pub room_no : (Holds (room_by t room) → ⊥) → Holds (has_room f room) → ⊥
  unfolding size_of
  room_no out h =
      out (omega (arith, h.0, c.runs), (omega (arith, h.1.0, c.runs, c.bytes), omega (arith, h.1.1, c.runs, c.bytes)))
