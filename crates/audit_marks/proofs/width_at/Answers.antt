use native.Mathlib.Omega.{arith}
use Rattle.audit_marks.proofs.width_at.Goals as goal

pub overflow_cast-result : goal.overflow_cast-result
overflow_cast-result c = omega (arith, c.type_inv.marks c.args.i)
