use Rattle.std.specs.Prelude.{not}
use Rattle.std.proofs.Common.{ap}
use Rattle.facts.specs.FactLaws.{granted, refuted}
use Rattle.hex_judge.specs.StandsLaws.{record_parts, record_joined, tells_so}
use Rattle.hex_judge.proofs.line_stands.Goals as goal

pub returns-then-not-front_stands : goal.returns-then-not-front_stands
returns-then-not-front_stands c =
    let a = c.args in
    record {
      says = λ h. refuted c.front_stands.ensures (ap not c.if-not-front_stands.true) (record_parts a.text.now a.at a.kind a.address a.d h).0;
    }

pub returns-in_default : goal.returns-in_default
returns-in_default c = let a = c.args in record { says = λ h. c.in_default.ensures (record_parts a.text.now a.at a.kind a.address a.d h).1 }

pub returns : goal.returns
returns c =
    let a = c.args in
    let sum = c.in-Some.ensures in
    let front = granted c.front_stands.ensures (ap not c.if-not-front_stands.false) in
    tells_so _ _ _ c.back_stands.ensures
    (λ h. record_joined a.text.now a.at a.kind a.address a.d front sum.there (rw sum.is at h))
    (λ h. rw sum.is (record_parts a.text.now a.at a.kind a.address a.d h).2)
