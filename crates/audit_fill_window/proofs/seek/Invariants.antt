use Rattle.inside_walk.specs.WholeWalk.{far}
use Rattle.audit_fill_window.specs.Near.{Passed}
use Rattle.audit_fill_window.proofs.seek.Given as goal

abbrev pub invariant-loop-x : goal.invariant-loop-x
invariant-loop-x l = Passed l.image l.v l.initial.spot l.from l.spot

abbrev pub decreases-loop-x : goal.decreases-loop-x
decreases-loop-x l = far l.v l.spot
