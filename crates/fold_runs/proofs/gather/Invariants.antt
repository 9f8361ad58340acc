use Rattle.fold_runs.specs.RunsLaws.{Gathering}
use Rattle.fold_runs.proofs.gather.Given as goal

abbrev pub invariant-loop-sheet : goal.invariant-loop-sheet
invariant-loop-sheet l = Gathering l.pile.bytes.now l.fn.words l.sheet-iterator l.g l.words l.seats
