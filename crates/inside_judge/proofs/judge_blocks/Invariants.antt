use Prim.Native.Nat.{◌-◌}
use Rattle.inside_blocks.specs.Blocks.{blocks_from}
use Rattle.inside_judge.specs.declared.Judged.{Judged}
use Rattle.inside_judge.specs.Judges.{JudgesOn}
use Rattle.inside_judge.proofs.judge_blocks.Given as goal

abbrev pub invariant-loop-used : goal.invariant-loop-used
invariant-loop-used l = (u : Judged) → JudgesOn (blocks_from l.image l.m (l.m.size - l.used) l.used) l.limits l.r u → JudgesOn (blocks_from l.image l.m l.m.size 0) l.limits l.initial.r u

abbrev pub decreases-loop-used : goal.decreases-loop-used
decreases-loop-used l = l.m.size - l.used
