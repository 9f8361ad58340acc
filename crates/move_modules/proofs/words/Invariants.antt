use Rattle.inside_walk.specs.WholeWalk.{far}
use Rattle.move_modules.specs.Relocate.{shift, Moving}
use Rattle.move_modules.proofs.words.Given as goal

abbrev pub invariant-loop-d : goal.invariant-loop-d
invariant-loop-d l = Moving l.initial.image l.v l.f (shift l.d.four l.d.eight) l.image l.s

abbrev pub decreases-loop-d : goal.decreases-loop-d
decreases-loop-d l = far l.v l.s
