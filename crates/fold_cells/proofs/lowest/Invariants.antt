use Rattle.fold_cells.specs.Cells.{Unset}
use Rattle.sheet.specs.ByteAt.{byte_by}
use Prim.Native.Nat.{◌≤◌}
use Rattle.fold_cells.proofs.lowest.Given as goal

abbrev pub invariant-loop-i : goal.invariant-loop-i
invariant-loop-i l = (l.i ≤ l.m) × (l.r ≤ l.low) × Unset (byte_by l.sheet l.i) l.from l.r
