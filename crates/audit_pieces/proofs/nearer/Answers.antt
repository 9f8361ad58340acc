use mathlib.Core.Logic.{inl, inr}
use native.Mathlib.Omega.{arith}
use Rattle.audit_pieces.proofs.nearer.Goals as goal

pub returns-then-p-at : goal.returns-then-p-at
returns-then-p-at c = (omega arith, inl (omega arith))

pub returns : goal.returns
returns c = (omega arith, inr (omega arith))
