-- Document 02, #114: the promise of `fold_spread::fold`, which is that of `fold::fold`.
-- Assumes nothing.
use Rattle.std.specs.Prelude.{ℕ, List, ◌≡◌}
use Rattle.std.proofs.Common.{sym, ◌∙◌}
use Rattle.fold.specs.declared.Folded.{Folded}
use Rattle.fold.specs.Fold.{Folds}

-- it admits one outcome
pub one_fold : (p o : List ℕ) (r r' : Folded) (q q' : List ℕ) → Folds p o r q → Folds p o r' q' → (r ≡ r') × (q ≡ q')
one_fold p o r r' q q' a b = (a.0 ∙ sym b.0, a.1 ∙ sym b.1)
