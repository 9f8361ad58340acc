use mathlib.Core.Logic.{inl, inr}
use native.Mathlib.Omega.{arith}
use Rattle.table_scans.proofs.skipped.Goals as goal

pub returns-then-sure : goal.returns-then-sure
returns-then-sure c = (omega arith, λ h. inl c.if-sure.true)

pub returns-then-a-high : goal.returns-then-a-high
returns-then-a-high c = (omega arith, λ h. absurd (omega arith))

pub returns : goal.returns
returns c = (omega arith, λ h. inr (omega arith))
