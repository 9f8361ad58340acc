use Rattle.apart_marks.specs.MarksLaws.{painted_whole}
use native.Mathlib.Omega.{arith}
use Rattle.apart_marks.proofs.mark_word.Goals as goal

pub returns-then-len-eq4 : goal.returns-then-len-eq4
returns-then-len-eq4 c =
    painted_whole _ _ _ _ _ 4 _ (omega arith) (omega arith) c.if-len-eq4.true c.paint_word.ensures

pub returns-then-len-eq8 : goal.returns-then-len-eq8
returns-then-len-eq8 c =
    painted_whole _ _ _ _ _ 8 _ (omega arith) (omega arith) c.if-len-eq8.true c.paint_word-then-len-eq8.ensures
