use Rattle.inside_files.specs.Parts as files
use Rattle.inside_files.specs.PartsWalk as filesWalk
use Rattle.inside_walk.specs.Whole.{spread, walked}
use Rattle.inside_judge.specs.declared.Judged.{Judged}
use Rattle.inside_judge.specs.Judges.{JudgesOn}
use Rattle.inside_judge.proofs.judge.Given as goal

-- whatever judges what is ahead, after what is passed, judges all
abbrev pub invariant-loop-limits : goal.invariant-loop-limits
invariant-loop-limits l = filesWalk.Valid l.v l.s
    × ((u : Judged) → JudgesOn (spread l.image (files.ahead l.image l.v l.s)) l.limits l.r u → JudgesOn (walked l.image l.v l.f) l.limits l.initial.r u)

abbrev pub decreases-loop-limits : goal.decreases-loop-limits
decreases-loop-limits l = filesWalk.far l.v l.s
