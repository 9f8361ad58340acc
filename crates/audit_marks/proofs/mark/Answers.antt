use Prim.Native.Nat.{◌-◌}
use Rattle.audit_marks.specs.MarkLaws.{marked_set}
use native.Mathlib.Omega.{arith}
use Rattle.audit_marks.proofs.mark.Goals as goal
use Rattle.items.specs.Kinds.{same_kind_not}
use Rattle.items.specs.declared.Kind.TheVariants.{Word}

pub overflow_cast-marks : goal.overflow_cast-marks
overflow_cast-marks c =
    omega (arith, c.requires.1 (same_kind_not _ Word c.ne.ensures c.if-ne.false))

pub returns : goal.returns
returns c =
    let a = c.args in
    marked_set a.marks.now a.from a.n a.x (a.x.at - a.from) (omega arith)
    (same_kind_not _ Word c.ne.ensures c.if-ne.false) (omega arith)
