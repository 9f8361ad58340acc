use mathlib.Core.Logic.{inl, inr, ⊎_elim}
use native.Mathlib.Omega.{arith}
use Rattle.table_scans.proofs.is_apart.Goals as goal

pub returns-then-a-b : goal.returns-then-a-b
returns-then-a-b c = record { says = inl (omega arith) }

pub returns-then-b-a : goal.returns-then-b-a
returns-then-b-a c = record { says = inr (omega arith) }

pub returns : goal.returns
returns c = record { says = λ h. ⊎_elim (λ x. omega arith) (λ x. omega arith) h }
