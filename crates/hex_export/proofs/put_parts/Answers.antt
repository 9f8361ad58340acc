use mathlib.Core.Path.{refl, ◌∙◌}
use Rattle.text_lines.specs.LineLaws.{wrote_length}
use Rattle.hex_text.specs.Sizes.{length_upper}
use Rattle.hex_export.specs.PartLaws.{parts_none, parts_room, parts_next, parts_all}
use native.Mathlib.Omega.{arith}
use Prim.Native.Nat.{◌+◌}
use mathlib.Core.Path.{◌≡◌}
use lib.ListN.{length}
use Rattle.hex_export.proofs.put_parts.Goals as goal

pub put_upper-at-requires : goal.put_upper-at-requires
put_upper-at-requires c = let r = c.requires in (omega (arith, r.room), omega (arith, r.ends, r.least))

pub loop-i-init : goal.loop-i-init
loop-i-init c =
    let w = c.put_upper-at.ensures in
    let a = c.args in
    (refl, omega (arith, w.after, length_upper a.base), parts_none a.base a.bytes.now _ _)

pub put_part-at-requires : goal.put_part-at-requires
put_part-at-requires c =
    let r = c.requires in
    let l = c.loop-i in
    let in-loop = c.loop-i-test.true in
    let e : length l.out ≡ length c.args.out.now = l.invariant.0 ∙ wrote_length
    c.put_upper-at.ensures in
    (rw e (parts_room r.even in-loop l.invariant.1 r.room l.invariant.2), omega (arith, in-loop), omega (arith, in-loop, r.ends))

pub loop-i-preserved : goal.loop-i-preserved
loop-i-preserved c =
    let l = c.loop-i in
    let w = c.put_part-at.ensures in
    (wrote_length w ∙ l.invariant.0, l.invariant.1, parts_next c.loop-i-test.true l.invariant.2 w)

pub shape_of-out : goal.shape_of-out
shape_of-out c = c.loop-i.invariant.0 ∙ wrote_length c.put_upper-at.ensures

pub returns : goal.returns
returns c = parts_all c.loop-i-test.false c.put_upper-at.ensures c.loop-i.invariant.2

pub returns-2 : goal.returns-2
returns-2 c =
    parts_all {i = c.loop-i.i + 16} (omega arith) c.put_upper-at.ensures (parts_next c.loop-i-test.true c.loop-i.invariant.2 c.put_part-at.ensures)
