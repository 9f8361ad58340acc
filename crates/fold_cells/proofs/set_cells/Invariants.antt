use Rattle.fold_cells.specs.Cells.{celled}
use lib.ListN.{length}
use Prim.Native.Nat.{◌≤◌}
use mathlib.Core.Path.{◌≡◌}
use Rattle.fold_cells.proofs.set_cells.Given as goal

abbrev pub invariant-loop-k : goal.invariant-loop-k
invariant-loop-k l = (l.k ≤ l.n) × (l.cells ≡ celled l.initial.cells l.to l.sheet l.from l.k) × (length l.cells ≡ length l.initial.cells)
