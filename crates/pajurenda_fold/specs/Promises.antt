-- Request #114, the C call: it answers in the lent buffer A, eight bytes a field, the number first.
-- Assumes nothing.
use Rattle.std.specs.Prelude.{ℕ, List, [], ◌∷◌, ◌≡◌, length}
use Rattle.std.proofs.Common.{sym, ◌∙◌}
use Rattle.c_answers.specs.Answers.{if_room, result, answered}
use Rattle.fold.specs.declared.Folded.{Folded}
use Rattle.fold.specs.Fold.{folding, folded_into}

-- a fold: number, length of the sheet, its entries
abbrev pub fold_fields : Folded → List ℕ
fold_fields r = r.number ∷ r.size ∷ r.entries ∷ []

-- `pajurenda_fold`; l is the output before, m afterwards
abbrev pub FoldCall : List ℕ → List ℕ → List ℕ → ℕ → List ℕ → List ℕ → Type 0
FoldCall p l A r m a =
    (r ≡ result 3 A (folding p (length l)).number)
    × ((m ≡ if_room 3 A (folded_into p l) l) × (a ≡ answered A (fold_fields (folding p (length l)))))

-- it admits one outcome
pub one_fold_call : (p l A : List ℕ) (r s : ℕ) (a b m n : List ℕ) → FoldCall p l A r m a → FoldCall p l A s n b
    → (r ≡ s) × (m ≡ n) × (a ≡ b)
one_fold_call p l A r s a b m n (e, (f, g)) (h, (k, q)) = (e ∙ sym h, f ∙ sym k, g ∙ sym q)
