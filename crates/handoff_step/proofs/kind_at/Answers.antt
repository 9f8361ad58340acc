use Rattle.std.proofs.Common.{sym, ◌∙◌, arith}
use Rattle.handoff_step.specs.StepLaws.{shows}
use Rattle.handoff_step.specs.Types.{kinds, not_ruled}
use Rattle.handoff_step.proofs.kind_at.Goals as goal

pub returns-then-at-eq0 : goal.returns-then-at-eq0
returns-then-at-eq0 c = sym ((shows _ _ c.requires.0).first c.if-at-eq0.true).0

pub resource_at-requires : goal.resource_at-requires
resource_at-requires c =
    let shown = shows _ _ c.requires.0 in
    let kind = (kinds _ _ c.requires.0).resource c.if-at-eq0.false (sym c.requires.1 ∙ c.in-Resource.ensures) in
    omega (arith, shown.inside, kind.0)

pub overflow_add-result : goal.overflow_add-result
overflow_add-result c =
    let shown = shows _ _ c.requires.0 in
    let kind = (kinds _ _ c.requires.0).guid c.if-at-eq0.false (sym c.requires.1 ∙ c.in-Guid.ensures) in
    omega (arith, shown.inside, kind.0)

pub overflow_sub-result : goal.overflow_sub-result
overflow_sub-result c =
    let kind = (kinds _ _ c.requires.0).guid c.if-at-eq0.false (sym c.requires.1 ∙ c.in-Guid.ensures) in
    omega (arith, kind.0)

pub returns-in-Resource : goal.returns-in-Resource
returns-in-Resource c =
    c.resource_at.ensures
    ∙ sym ((kinds _ _ c.requires.0).resource c.if-at-eq0.false (sym c.requires.1 ∙ c.in-Resource.ensures)).1

pub returns-in-Guid : goal.returns-in-Guid
returns-in-Guid c =
    rw c.requires.2
    (sym ((kinds _ _ c.requires.0).guid c.if-at-eq0.false (sym c.requires.1 ∙ c.in-Guid.ensures)).1)

pub returns-in-End : goal.returns-in-End
returns-in-End c = sym ((shows _ _ c.requires.0).stays (sym c.requires.1 ∙ c.in-End.ensures)).0

pub returns-in-Handoff : goal.returns-in-Handoff
returns-in-Handoff c =
    let isnt = not_ruled _ _ c.from.ensures c.in-Handoff.is in
    let same = c.requires.1 in
    sym ((kinds _ _ c.requires.0).other c.if-at-eq0.false (rw same at isnt.0) (rw same at isnt.1) (rw same at isnt.2))
