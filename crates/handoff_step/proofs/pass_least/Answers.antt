use Rattle.std.proofs.Common.{refl}
use native.Mathlib.Omega.{arith}
use Rattle.facts.specs.Fact.{◌≤?◌}
use Rattle.facts.specs.FactLaws.{passes, fails}
use Rattle.handoff_step.proofs.pass_least.Goals as goal

pub returns-then-n-least : goal.returns-then-n-least
returns-then-n-least c =
    let a = c.args in
    rw (fails (a.least ≤? a.n) (λ h. omega arith)) refl

pub returns : goal.returns
returns c =
    let a = c.args in
    rw (passes (a.least ≤? a.n) (omega arith)) refl
