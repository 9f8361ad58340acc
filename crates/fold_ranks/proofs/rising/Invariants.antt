use Rattle.fold_ranks.specs.RanksLaws.{Climbing}
use Rattle.fold_ranks.proofs.rising.Given as goal

abbrev pub invariant-loop-w : goal.invariant-loop-w
invariant-loop-w l = Climbing l.words l.w-index l.top l.free
