use Rattle.std.proofs.Common.{sym, ◌∙◌}
use Rattle.station_order.specs.OrderLaws.{unknown}
use Rattle.station_order.specs.FormLaws.{by_reached}
use Rattle.station_order.proofs.step.Goals as goal

pub returns-in_default : goal.returns-in_default
returns-in_default c = c.refused.ensures ∙ sym (unknown _ _ _ c.in_default.ensures)

pub returns-in-None : goal.returns-in-None
returns-in-None c =
    let call = c.in-Some.ensures in
    c.refused-in-None.ensures ∙ sym (by_reached _ _ _ call.0 call.1 _ _ _ c.of_number.ensures (sym c.in-None.is ∙ c.next.ensures))

pub returns-in-Some-next : goal.returns-in-Some-next
returns-in-Some-next c =
    let call = c.in-Some.ensures in
    let by = by_reached _ _ _ call.0 call.1 _ _ _ c.of_number.ensures (sym c.in-Some-next.is ∙ c.next.ensures) in
    rw c.number.ensures (sym by)
