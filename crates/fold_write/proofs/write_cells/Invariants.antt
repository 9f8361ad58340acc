use Rattle.fold_tally.specs.Tally.{through}
use Rattle.fold_sheet.specs.Placing.{placed_cells}
use Prim.Native.Nat.{◌-◌, ◌≤◌}
use lib.ListN.{length}
use mathlib.Core.Path.{◌≡◌}
use Rattle.fold_write.proofs.write_cells.Given as goal

abbrev pub invariant-loop-i : goal.invariant-loop-i
invariant-loop-i l = (l.i ≤ length l.cells) × (l.u ≡ through l.cells l.i l.initial.u) × (l.out ≡ placed_cells l.m l.base l.cells l.i l.initial.u l.initial.out) × (length l.out ≡ length l.initial.out)

abbrev pub decreases-loop-i : goal.decreases-loop-i
decreases-loop-i l = length l.cells - l.i
