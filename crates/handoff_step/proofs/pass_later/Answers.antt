use Rattle.std.proofs.Common.{refl, ◌≡◌}
use Rattle.facts.specs.Rules.{run}
use Prim.Native.Nat.{◌+◌, ◌-◌}
use mathlib.Core.Path.{sym, ◌∙◌}
use native.Mathlib.Omega.{arith}
use Rattle.handoff_step.specs.declared.Kind.TheVariants.{Guid, End}
use Rattle.facts.specs.Fact.{◌≤?◌, ◌≡?◌, test}
use Rattle.facts.specs.FactLaws.{passes, fails}
use Rattle.handoff_step.specs.Step.{refusal, shown, resource_at, from_resource, from_guid, from_end, from_later}
use Rattle.handoff_step.specs.Passing.{at_least, brief_cond}
use Rattle.handoff_step.specs.Types.{not_ruled}
use Rattle.handoff_step.proofs.pass_later.Goals as goal

pub returns-in-Resource : goal.returns-in-Resource
unfolding run from_later from_resource
returns-in-Resource c =
    let a = c.args in
    let is : c.pass_least.result ≡ at_least a.at 3 a.n 48 = rw c.in-Resource.ensures at c.pass_least.ensures in
    rw (passes (a.t ≡? 3) c.in-Resource.ensures)
    (is
    ∙ sym (brief_cond (test (48 ≤? a.n)) (shown a.at 3 a.n (a.at + a.n) (resource_at a.buffer.now a.at)) (refusal a.at 33 0)))

pub returns-in-Guid : goal.returns-in-Guid
unfolding run from_later from_guid
returns-in-Guid c =
    let a = c.args in
    let four : a.t ≡ 4 = c.in-Guid.ensures in
    let is : c.pass_least-in-Guid.result ≡ at_least a.at 4 a.n 24 = rw four at c.pass_least-in-Guid.ensures in
    rw (fails (a.t ≡? 3) (λ z. absurd (omega arith)), passes (a.t ≡? 4) four)
    (is
    ∙ sym (brief_cond (test (24 ≤? a.n)) (shown a.at 4 a.n (a.at + a.n) (Guid (a.at + 24) (a.n - 24))) (refusal a.at 33 0)))

pub returns-in-End : goal.returns-in-End
unfolding run from_later from_end
returns-in-End c =
    let a = c.args in
    let is : a.t ≡ 0xFFFF = c.in-End.ensures in
    rw (fails (a.t ≡? 3) (λ z. absurd (omega arith)), fails (a.t ≡? 4) (λ z. absurd (omega arith)), passes (a.t ≡? 0xFFFF) is)
    (c.pass_end.ensures ∙ sym (brief_cond (test (a.n ≡? 8)) (shown a.at 0xFFFF a.n a.at End) (refusal a.at 33 0)))

pub returns-in-Handoff : goal.returns-in-Handoff
unfolding run from_later
returns-in-Handoff c =
    let t = c.args.t in
    let isnt = not_ruled t _ c.from.ensures c.in-Handoff.is in
    rw (fails (t ≡? 3) isnt.0, fails (t ≡? 4) isnt.1, fails (t ≡? 0xFFFF) isnt.2)
    refl
