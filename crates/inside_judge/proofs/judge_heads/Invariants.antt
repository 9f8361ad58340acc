use Rattle.inside_blocks.specs.Blocks.{heads_from, head_count}
use Rattle.inside_judge.specs.declared.Judged.{Judged}
use Rattle.inside_judge.specs.Judges.{JudgesOn}
use Rattle.inside_judge.proofs.judge_heads.Given as goal

abbrev pub invariant-loop-k : goal.invariant-loop-k
invariant-loop-k l = (u : Judged) → JudgesOn (heads_from l.m l.k) l.limits l.r u → JudgesOn (heads_from l.m (head_count l.m)) l.limits l.initial.r u
