use native.Mathlib.Omega.{arith}
use Rattle.audit_stretch.specs.StretchLaws.{until_at}
use Rattle.audit_stretch.proofs.next.Goals as goal

pub returns-then-from-to : goal.returns-then-from-to
returns-then-from-to c = λ i h l. absurd (omega arith)

pub returns-then-b-from : goal.returns-then-b-from
returns-then-b-from c =
    let a = c.args in
    (until_at a.a.now a.b.now a.from a.to (omega arith) c.if-b-from.true, omega arith)
