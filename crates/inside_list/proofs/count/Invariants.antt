use Rattle.inside_list.specs.Counting.{Counting}
use Rattle.inside_files.specs.PartsWalk.{far}
use Rattle.inside_list.proofs.count.Given as goal

abbrev pub invariant-loop-t : goal.invariant-loop-t
invariant-loop-t l = Counting l.image l.v l.f l.n l.c

abbrev pub decreases-loop-t : goal.decreases-loop-t
decreases-loop-t l = far l.v l.c
