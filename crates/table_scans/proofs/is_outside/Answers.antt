use mathlib.Core.Logic.{inl, inr, ⊎_elim}
use native.Mathlib.Omega.{arith}
use Rattle.table_scans.proofs.is_outside.Goals as goal

pub returns-then-at-c : goal.returns-then-at-c
returns-then-at-c c = record { says = (omega arith, inl (omega arith)) }

pub returns-then-c-z : goal.returns-then-c-z
returns-then-c-z c = record { says = (omega arith, inr (omega arith)) }

pub returns : goal.returns
returns c = record { says = λ h. ⊎_elim (λ x. omega arith) (λ x. omega arith) h.1 }
