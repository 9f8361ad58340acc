use Rattle.std.specs.Prelude.{not}
use Rattle.std.proofs.Common.{ap}
use native.Mathlib.Omega.{arith}
use Prim.Native.Nat.{◌+◌}
use Rattle.facts.specs.FactLaws.{granted, refuted, yes, no}
use Rattle.hex_text.specs.Hex.{part, data_line}
use Rattle.hex_text.specs.Sizes.{part_stays}
use Rattle.hex_judge.specs.Stands.{stands, bytes_at}
use Rattle.hex_parts.specs.Decoded.{data_at}
use Rattle.hex_parts.specs.DecodedLaws.{data_stays, data_turns, part_split, part_joined}
use Rattle.hex_judge.specs.StandsLaws.{tells_so}
use Rattle.hex_parts.proofs.part_stands.Goals as goal

pub returns-then-not-turns_at : goal.returns-then-not-turns_at
returns-then-not-turns_at c =
    let a = c.args in
    let e = no c.turns_at.ensures (ap not c.if-not-turns_at.true) in
    rw (
      data_stays a.text.now a.base a.i a.at e,
      part_stays a.base a.i
          (bytes_at a.text.now (a.at + 9) a.d) e,
    ) c.data_stands.ensures

pub upper_stands-requires : goal.upper_stands-requires
upper_stands-requires c =
    let room = c.requires.1 (granted c.turns_at.ensures (ap not c.if-not-turns_at.false)) in
    (omega arith, c.requires.3)

pub returns-then-not-upper_stands : goal.returns-then-not-upper_stands
returns-then-not-upper_stands c =
    let a = c.args in
    let e = yes c.turns_at.ensures (ap not c.if-not-turns_at.false) in
    let bs = bytes_at a.text.now (data_at a.base a.i a.at) a.d in
    record {
      says = λ h. refuted c.upper_stands.ensures (ap not c.if-not-upper_stands.true)
          (part_split a.text.now a.base a.i a.at bs e h).0;
    }

pub data_stands-requires-2 : goal.data_stands-requires-2
data_stands-requires-2 c =
    let room = c.requires.1 (granted c.turns_at.ensures (ap not c.if-not-turns_at.false)) in
    (omega arith, c.requires.2)

pub returns : goal.returns
returns c =
    let a = c.args in
    let e = yes c.turns_at.ensures (ap not c.if-not-turns_at.false) in
    let bs = bytes_at a.text.now (a.at + 16 + 9) a.d in
    let u = granted c.upper_stands.ensures (ap not c.if-not-upper_stands.false) in
    rw (data_turns a.text.now a.base a.i a.at e)
    (tells_so c.data_stands-2.result (stands a.text.now (a.at + 16) (data_line (a.base + a.i) bs))
    (stands a.text.now a.at (part a.base a.i bs)) c.data_stands-2.ensures
    (part_joined a.text.now a.base a.i a.at bs e u) (λ h. (part_split a.text.now a.base a.i a.at bs e h).1))
