use Rattle.fold_tally.specs.Tally.{Skipped}
use Rattle.fold_tally.proofs.skip_rest.Given as goal

abbrev pub invariant-loop-k : goal.invariant-loop-k
invariant-loop-k l = Skipped l.cells l.i l.k
