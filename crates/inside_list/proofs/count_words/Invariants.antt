use Rattle.inside_list.specs.Counting.{CountingWords}
use Rattle.inside_blocks.specs.BlocksWalk.{far}
use Rattle.inside_list.proofs.count_words.Given as goal

abbrev pub invariant-loop-m : goal.invariant-loop-m
invariant-loop-m l = CountingWords l.image l.m l.n l.c

abbrev pub decreases-loop-m : goal.decreases-loop-m
decreases-loop-m l = far l.m l.c
