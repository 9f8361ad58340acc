-- Document 02, #114: what a check of a pile answers.
-- Assumes nothing.
use Rattle.std.specs.Prelude.{ℕ, ◌≡◌, refl, Result, Ok, Err, IsErrAnd}
use Rattle.std.proofs.Common.{ap, arith}
use Rattle.fold_pile.specs.declared.Refusal.{Refusal}
use Rattle.fold_pile.specs.declared.Refusal.TheVariants.{Unfit, Unlike}

-- the rule's number
abbrev pub number_of_refusal : Refusal → ℕ
number_of_refusal Unfit = 15
number_of_refusal Unlike = 16

-- the number of an answer, 0 where nothing is refused
abbrev pub told : Result (Unit {0}) Refusal → ℕ
told (Ok _) = 0
told (Err e) = number_of_refusal e

pub number_some : (e : Refusal) → number_of_refusal e ≡ 0 → ⊥
number_some Unfit z = omega arith
number_some Unlike z = omega arith

-- what `?` gives on
pub told_err : (r : Result (Unit {0}) Refusal) (e : Refusal) → IsErrAnd r (λ x. x ≡ e) → told r ≡ number_of_refusal e
told_err (Ok x) e h = absurd h
told_err (Err x) e h = ap number_of_refusal h

pub one_number : (e e' : Refusal) → number_of_refusal e ≡ number_of_refusal e' → e ≡ e'
one_number Unfit Unfit n = refl
one_number Unfit Unlike n = absurd (omega arith)
one_number Unlike Unfit n = absurd (omega arith)
one_number Unlike Unlike n = refl
