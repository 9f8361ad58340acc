use lib.ListN.{length}
use mathlib.Core.Path.{◌≡◌}
use Rattle.fold_cells.specs.CellsLaws.{Filling}
use Rattle.fold_cells.proofs.fill.Given as goal

abbrev pub invariant-loop-sheet : goal.invariant-loop-sheet
invariant-loop-sheet l = Filling l.pile.bytes.now l.base l.sheet-iterator l.cells × (length l.cells ≡ length l.fn.cells)
