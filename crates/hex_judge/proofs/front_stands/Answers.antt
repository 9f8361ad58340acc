use Rattle.std.specs.Prelude.{not}
use Rattle.std.proofs.Common.{ap}
use native.Mathlib.Omega.{arith}
use Rattle.facts.specs.FactLaws.{granted, refuted}
use Rattle.hex_judge.specs.StandsLaws.{front_parts, front_joined}
use Rattle.hex_judge.proofs.front_stands.Goals as goal

pub returns-then-not-is_pair : goal.returns-then-not-is_pair
returns-then-not-is_pair c =
    let a = c.args in
    record {
      says = λ h. refuted c.is_pair.ensures (ap not c.if-not-is_pair.true)
          (front_parts a.text.now a.at a.kind a.address a.d h).count;
    }

pub returns-then-not-is_pair-2 : goal.returns-then-not-is_pair-2
returns-then-not-is_pair-2 c =
    let a = c.args in
    record {
      says = λ h. refuted c.is_pair-2.ensures (ap not c.if-not-is_pair-2.true)
          (front_parts a.text.now a.at a.kind a.address a.d h).high;
    }

pub returns-then-not-is_pair-3 : goal.returns-then-not-is_pair-3
returns-then-not-is_pair-3 c =
    let a = c.args in
    record {
      says = λ h. refuted c.is_pair-3.ensures (ap not c.if-not-is_pair-3.true)
          (front_parts a.text.now a.at a.kind a.address a.d h).low;
    }

pub returns-then-not-is_pair-4 : goal.returns-then-not-is_pair-4
returns-then-not-is_pair-4 c =
    let a = c.args in
    record {
      says = λ h. refuted c.is_pair-4.ensures (ap not c.if-not-is_pair-4.true)
          (front_parts a.text.now a.at a.kind a.address a.d h).sort;
    }

pub returns : goal.returns
returns c =
    let a = c.args in
    record {
      says = front_joined a.text.now a.at a.kind a.address a.d (record {
        colon = omega (arith, c.if-text-at-ne58.false);
        count = granted c.is_pair.ensures
            (ap not c.if-not-is_pair.false);
        high = granted c.is_pair-2.ensures (ap not c.if-not-is_pair-2.false);
        low = granted c.is_pair-3.ensures (ap not c.if-not-is_pair-3.false);
        sort = granted c.is_pair-4.ensures (ap not c.if-not-is_pair-4.false);
      });
    }
