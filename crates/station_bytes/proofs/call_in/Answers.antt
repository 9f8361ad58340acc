use mathlib.Core.Path.{◌∙◌}
use Rattle.station_bytes.specs.StoredLaws.{refused_call, accepted_call}
use Rattle.station_bytes.proofs.call_in.Goals as goal

pub returns-then-r-ne0 : goal.returns-then-r-ne0
returns-then-r-ne0 c =
    refused_call _ _ _ _ _ _ c.le64.ensures.is c.state_of-known.ensures c.call_from-r.ensures c.if-r-ne0.true

pub returns : goal.returns
returns c =
    let promise = accepted_call _ _ _ _ _ _ c.le64.ensures.is c.state_of-known.ensures c.call_from-r.ensures
    c.if-r-ne0.false in
    (promise.0, c.put64.ensures ∙ promise.1)
