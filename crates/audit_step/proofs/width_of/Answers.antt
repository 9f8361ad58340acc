use Rattle.std.proofs.Common.{le-ltb, lt-ltb}
use Rattle.audit_step.proofs.width_of.Goals as goal

pub returns-then-p-first : goal.returns-then-p-first
returns-then-p-first c = let a = c.args in rw (lt-ltb a.p a.first c.if-p-first.true)

pub returns : goal.returns
returns c = let a = c.args in rw (le-ltb a.p a.first c.if-p-first.false)
