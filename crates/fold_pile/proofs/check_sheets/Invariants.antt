use Rattle.fold_pile.specs.PileLaws.{Judging}
use Rattle.fold_pile.proofs.check_sheets.Given as goal

abbrev pub invariant-loop-sheet : goal.invariant-loop-sheet
invariant-loop-sheet l = Judging l.pile l.first l.seen l.sheet-iterator
