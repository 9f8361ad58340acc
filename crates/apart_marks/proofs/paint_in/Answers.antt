use Rattle.apart_marks.specs.MarksLaws.{clipped_order, painted_in}
use native.Mathlib.Omega.{arith}
use Rattle.apart_marks.proofs.paint_in.Goals as goal

pub paint-requires : goal.paint-requires
paint-requires c =
    (clipped_order _ _ _ _ _ c.requires.1 c.clip-a.ensures c.clip-e.ensures, omega (arith, c.clip-e.ensures.small))

pub returns : goal.returns
returns c =
    painted_in _ _ _ _ _ _ _ _ _ _ c.clip-a.ensures c.clip-e.ensures c.paint.ensures
