use Rattle.fold_cells.specs.Cells.{Over}
use Rattle.sheet.specs.ByteAt.{byte_by}
use Prim.Native.Nat.{◌≤◌}
use Rattle.fold_cells.proofs.enter_sheet.Given as goal

abbrev pub invariant-loop-i : goal.invariant-loop-i
invariant-loop-i l = (l.i ≤ l.m) × Over l.initial.cells l.cells l.base (byte_by l.sheet l.i)
