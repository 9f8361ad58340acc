use Rattle.std.specs.Prelude.{not}
use Rattle.std.proofs.Common.{ap}
use native.Mathlib.Omega.{arith}
use mathlib.Core.List.{[], ◌∷◌}
use Rattle.facts.specs.FactLaws.{granted, refuted}
use Rattle.hex_text.specs.Hex.{pairs, sum_byte}
use Rattle.hex_judge.specs.StandsLaws.{stands_split, stands_join}
use Rattle.hex_judge.proofs.back_stands.Goals as goal

pub returns-then-not-is_pair : goal.returns-then-not-is_pair
returns-then-not-is_pair c =
    let a = c.args in
    let two = pairs (sum_byte a.sum ∷ []) in
    record { says = λ h. refuted c.is_pair.ensures (ap not c.if-not-is_pair.true) (stands_split a.text.now a.at two (10 ∷ []) h).0 }

pub returns-then-text-at-ne10 : goal.returns-then-text-at-ne10
returns-then-text-at-ne10 c =
    let a = c.args in
    let two = pairs (sum_byte a.sum ∷ []) in
    record { says = λ h. let e = (stands_split a.text.now a.at two (10 ∷ []) h).1.0 in omega (arith, c.if-text-at-ne10.true) }

pub returns : goal.returns
returns c =
    let a = c.args in
    let two = pairs (sum_byte a.sum ∷ []) in
    record {
      says = stands_join a.text.now a.at two (10 ∷ [])
          (granted c.is_pair.ensures (ap not c.if-not-is_pair.false))
          (omega (arith, c.if-text-at-ne10.false), omega arith);
    }
