use Rattle.std.proofs.Common.{refl}
use Prim.Native.Nat.{◌+◌}
use lib.ListN.{length}
use Rattle.facts.specs.Rules.{run}
use native.Mathlib.Omega.{arith}
use Rattle.facts.specs.Fact.{◌≤?◌}
use Rattle.facts.specs.FactLaws.{passes, fails}
use Rattle.handoff_step.specs.Step.{step_rules, stepped}
use Rattle.handoff_step.proofs.pass_one.Goals as goal

pub returns-then-buffer-at : goal.returns-then-buffer-at
unfolding run step_rules stepped
returns-then-buffer-at c =
    let a = c.args in
    rw (fails (a.at + 1 ≤? length a.buffer.now) (λ h. omega arith)) refl

pub returns : goal.returns
unfolding run step_rules stepped
returns c =
    let a = c.args in
    rw (passes (a.at + 1 ≤? length a.buffer.now) (omega arith)) c.pass_head.ensures
