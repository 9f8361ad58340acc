use Rattle.std.proofs.Common.{arith, le-ltb, lt-ltb}
use Rattle.audit_step.proofs.end_of.Goals as goal

pub overflow_add-result : goal.overflow_add-result
overflow_add-result c = record { fits = omega (arith, c.requires c.if-p-long.true) }

pub returns-then-p-long : goal.returns-then-p-long
returns-then-p-long c = let a = c.args in rw (lt-ltb a.p a.long c.if-p-long.true)

pub returns : goal.returns
returns c = let a = c.args in rw (le-ltb a.p a.long c.if-p-long.false)
