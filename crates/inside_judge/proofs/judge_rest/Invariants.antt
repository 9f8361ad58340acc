use Rattle.inside_blocks.specs.Blocks.{entries_from}
use Rattle.inside_judge.specs.Judges.{JudgesOn}
use Rattle.inside_judge.proofs.judge_rest.Given as goal

abbrev pub invariant-loop-i : goal.invariant-loop-i
invariant-loop-i l = JudgesOn (entries_from l.image l.m l.q.page l.at l.i) l.limits l.initial.r l.r
