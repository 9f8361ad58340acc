use Prim.Native.Nat.{◌≤◌}
use Rattle.fold_cells.specs.Cells.{last}
use Rattle.fold_cells.specs.CellsLaws.{Seeking}
use Rattle.fold_cells.proofs.next_set.Given as goal

abbrev pub invariant-loop-sheet : goal.invariant-loop-sheet
invariant-loop-sheet l = Seeking l.pile.bytes.now l.from l.sheet-iterator l.low × (l.low ≤ last)
