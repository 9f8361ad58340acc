use Rattle.std.specs.Prelude.{not}
use Rattle.std.proofs.Common.{ap}
use native.Mathlib.Omega.{arith}
use Prim.Native.Nat.{◌+◌}
use lib.ListN.{take, drop}
use Rattle.facts.specs.FactLaws.{yes, no}
use Rattle.text_lines.specs.LineLaws.{wrote_then, wrote_length}
use Rattle.hex_text.specs.Hex.{upper_line, data_line}
use Rattle.hex_text.specs.Sizes.{room_stays, room_turns, part_stays, part_turns, length_upper}
use Rattle.hex_export.proofs.put_part.Goals as goal

pub put_data-requires : goal.put_data-requires
put_data-requires c =
    let a = c.args in
    let e = no c.turns_at.ensures (ap not c.if-not-turns_at.true) in
    (room_stays a.base a.i a.bytes.now a.at _ e c.requires.0, c.requires.1, c.requires.2)

pub returns-then-not-turns_at : goal.returns-then-not-turns_at
returns-then-not-turns_at c =
    let a = c.args in
    let e = no c.turns_at.ensures (ap not c.if-not-turns_at.true) in
    rw (part_stays a.base a.i (take 16 (drop a.i a.bytes.now)) e) c.put_data.ensures

pub put_upper-p-requires : goal.put_upper-p-requires
put_upper-p-requires c =
    let a = c.args in
    let e = yes c.turns_at.ensures (ap not c.if-not-turns_at.false) in
    let r = room_turns a.base a.i a.bytes.now a.at _ e c.requires.0 in
    (omega arith, c.requires.2)

pub put_data-requires-2 : goal.put_data-requires-2
put_data-requires-2 c =
    let a = c.args in
    let e = yes c.turns_at.ensures
    (ap not c.if-not-turns_at.false) in
    let r = room_turns a.base a.i a.bytes.now a.at _ e c.requires.0 in
    let w = c.put_upper-p.ensures in
    (omega (arith, w.after, wrote_length w, length_upper (a.base + a.i)), c.requires.1, c.requires.2)

pub returns : goal.returns
returns c =
    let a = c.args in
    let e = yes c.turns_at.ensures
    (ap not c.if-not-turns_at.false) in
    let bs = take 16 (drop a.i a.bytes.now) in
    rw (part_turns a.base a.i bs e)
    (wrote_then (upper_line (a.base + a.i)) (data_line (a.base + a.i) bs)
    c.put_upper-p.ensures c.put_data-2.ensures)
