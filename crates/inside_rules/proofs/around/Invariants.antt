use Rattle.inside_rules.specs.ContentsLaws.{Within}
use Rattle.inside_rules.proofs.around.Given as goal

abbrev pub invariant-loop-i : goal.invariant-loop-i
invariant-loop-i l = Within l.image l.t l.i l.low l.top
