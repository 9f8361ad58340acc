use Rattle.std.proofs.Common.{refl}
use Rattle.facts.specs.Rules.{run}
use Rattle.facts.specs.Fact.{◌≡?◌, ◌and◌}
use Rattle.facts.specs.FactLaws.{passes, fails}
use Rattle.handoff_step.specs.Step.{from_first}
use Rattle.handoff_step.specs.Types.{not_handoff}
use Rattle.handoff_step.proofs.pass_first.Goals as goal

pub returns-in_default : goal.returns-in_default
unfolding run from_first
returns-in_default c =
    let a = c.args in
    rw (fails (a.t ≡? 1 and a.n ≡? 56) (λ h. not_handoff a.t _ c.from.ensures c.in_default.not-Handoff h.0)) refl

pub returns-then-n-ne56 : goal.returns-then-n-ne56
unfolding run from_first
returns-then-n-ne56 c =
    let a = c.args in
    rw (fails (a.t ≡? 1 and a.n ≡? 56) (λ h. c.if-n-ne56.true h.1)) refl

pub returns : goal.returns
unfolding run from_first
returns c =
    let a = c.args in
    rw (passes (a.t ≡? 1 and a.n ≡? 56) (c.in-Handoff.ensures, c.if-n-ne56.false)) refl
