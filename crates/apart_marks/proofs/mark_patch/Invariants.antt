use Rattle.inside_judge.specs.Rules.{patch_from}
use Rattle.apart_marks.specs.Marks.{Marks}
use Rattle.apart_marks.proofs.mark_patch.Given as goal

abbrev pub invariant-loop-i : goal.invariant-loop-i
invariant-loop-i l = Marks (patch_from l.image l.t 0 l.i) l.w l.marks
