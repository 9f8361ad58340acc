use native.Mathlib.Omega.{arith}
use Rattle.fold_cells.proofs.lower.Goals as goal

pub returns-then-w-from : goal.returns-then-w-from
returns-then-w-from c = (omega arith, omega arith, λ k a b r. omega arith)

pub returns : goal.returns
returns c = (omega arith, omega arith, λ k a b r. omega arith)
