use Rattle.inside_list.specs.Filling.{FillingWords}
use Rattle.inside_blocks.specs.BlocksWalk.{far}
use Rattle.inside_list.proofs.fill_words.Given as goal

abbrev pub invariant-loop-m : goal.invariant-loop-m
invariant-loop-m l = FillingWords l.image l.m l.initial.places l.i l.places l.n l.c

abbrev pub decreases-loop-m : goal.decreases-loop-m
decreases-loop-m l = far l.m l.c
