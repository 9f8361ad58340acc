use native.Mathlib.Omega.{arith}
use Prim.Native.Nat.{◌+◌}
use mathlib.Core.Path.{refl, ◌∙◌}
use Rattle.text_lines.specs.LineLaws.{wrote_length}
use Rattle.hex_parts.specs.Told.{minus_twelve}
use Rattle.hex_bytes.specs.BytesLaws.{got_none, got_next, got_room, got_within, got_small, got_all}
use Rattle.hex_text.specs.Sizes.{chunk}
use Rattle.hex_bytes.proofs.put_all.Goals as goal

pub loop-i-init : goal.loop-i-init
loop-i-init c = let a = c.args in (refl, got_none a.text.now a.base a.n _)

pub part_length-d-requires : goal.part_length-d-requires
part_length-d-requires c = omega (arith, c.loop-i-test.true)

pub data_at-p-requires : goal.data_at-p-requires
data_at-p-requires c =
    let z = c.requires.0 in
    let h = c.loop-i-test.true in
    let near = got_small z.most h c.loop-i.invariant.1 in
    (omega (arith, z.ends, h), omega (arith, near))

pub put_bytes-at-requires : goal.put_bytes-at-requires
put_bytes-at-requires c =
    let a = c.args in
    let z = c.requires.0 in
    let l = c.loop-i in
    let h = c.loop-i-test.true in
    let d = c.part_length-d.result in
    let is = c.part_length-d.ensures in (
      rw c.data_at-p.ensures (got_room a.text.now a.base a.n a.out.now l.out l.at l.i d h
          l.invariant.1 is z),
      omega (
        arith,
        got_within a.text.now a.base a.n a.out.now l.out l.at l.i d h
            l.invariant.1 is,
        l.invariant.0,
        c.requires.1,
      ),
    )

pub overflow_add-i : goal.overflow_add-i
overflow_add-i c =
    let a = c.args in
    let z = c.requires.0 in
    let l = c.loop-i in
    let h = c.loop-i-test.true in
    let d = c.part_length-d.result in
    let is = c.part_length-d.ensures in
    omega (arith, got_within a.text.now a.base a.n a.out.now l.out l.at l.i d h l.invariant.1 is, z.most)

pub text_length-at-requires : goal.text_length-at-requires
text_length-at-requires c =
    let a = c.args in
    let z = c.requires.0 in
    let l = c.loop-i in
    let h = c.loop-i-test.true in
    let d = c.part_length-d.result in
    let is = c.part_length-d.ensures in (
      rw is (omega (arith, (chunk a.n l.i h).least)),
      omega
          (arith, got_within a.text.now a.base a.n a.out.now l.out l.at l.i d h l.invariant.1 is, z.most),
    )

pub overflow_sub-at : goal.overflow_sub-at
overflow_sub-at c = omega (arith, c.text_length-at.ensures)

pub loop-i-preserved : goal.loop-i-preserved
loop-i-preserved c =
    let a = c.args in
    let z = c.requires.0 in
    let l = c.loop-i in
    let h = c.loop-i-test.true in
    let d = c.part_length-d.result in
    let is = c.part_length-d.ensures in
    let w = c.put_bytes-at.ensures in (
      wrote_length w ∙ l.invariant.0,
      got_next a.text.now a.base a.n a.out.now l.out l.at l.i d h l.invariant.1 is _ _ _ _
          c.data_at-p.ensures (minus_twelve _ a.base (l.i + d) c.text_length-at.ensures) w,
    )

pub shape_of-out : goal.shape_of-out
shape_of-out c = c.loop-i.invariant.0

pub returns : goal.returns
returns c = got_all c.loop-i-test.false c.requires.1 c.loop-i.invariant.1

pub returns-2 : goal.returns-2
returns-2 c =
    let a = c.args in
    let l = c.loop-i in
    let h = c.loop-i-test.true in
    got_all {i = l.i + 16} (omega arith) c.requires.1
    (got_next a.text.now a.base a.n a.out.now l.out l.at l.i c.part_length-d.result h l.invariant.1 c.part_length-d.ensures _ _ _ _
    c.data_at-p.ensures (minus_twelve _ a.base (l.i + c.part_length-d.result) c.text_length-at.ensures) c.put_bytes-at.ensures)
