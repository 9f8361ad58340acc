use Rattle.inside_list.specs.Filling.{Filling}
use Rattle.inside_files.specs.PartsWalk.{far}
use Rattle.inside_list.proofs.fill.Given as goal

abbrev pub invariant-loop-t : goal.invariant-loop-t
invariant-loop-t l = Filling l.image l.v l.f l.initial.places l.k l.places l.file l.i l.c

abbrev pub decreases-loop-t : goal.decreases-loop-t
decreases-loop-t l = far l.v l.c
