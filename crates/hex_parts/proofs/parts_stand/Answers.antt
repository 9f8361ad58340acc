use Rattle.std.specs.Prelude.{not}
use Rattle.std.proofs.Common.{ap}
use native.Mathlib.Omega.{arith}
use Prim.Native.Nat.{◌+◌}
use Rattle.facts.specs.FactLaws.{granted, refuted}
use Rattle.hex_text.specs.Sizes.{chunk}
use Rattle.hex_parts.specs.Told.{told_none, told_next, told_not, told_all, upper_first, fits_part, minus_twelve}
use Rattle.hex_parts.proofs.parts_stand.Goals as goal

pub upper_stands-requires : goal.upper_stands-requires
upper_stands-requires c = let z = c.requires in (omega (arith, z.long), omega (arith, z.ends, z.least))

pub returns-then-not-upper_stands : goal.returns-then-not-upper_stands
returns-then-not-upper_stands c =
    let a = c.args in
    record {
      says = λ h. refuted c.upper_stands.ensures (ap not c.if-not-upper_stands.true)
          (upper_first a.text.now a.base a.n (omega (arith, c.requires.least)) h);
    }

pub loop-i-init : goal.loop-i-init
loop-i-init c =
    let a = c.args in
    told_none a.text.now a.base a.n (granted c.upper_stands.ensures (ap not c.if-not-upper_stands.false))

pub part_length-d-requires : goal.part_length-d-requires
part_length-d-requires c = omega (arith, c.loop-i-test.true)

pub part_stands-requires : goal.part_stands-requires
part_stands-requires c =
    let z = c.requires in
    let a = c.args in
    let l = c.loop-i in
    let h = c.loop-i-test.true in
    let is = c.part_length-d.ensures in
    fits_part a.text.now a.base a.n l.at l.i c.part_length-d.result z h l.invariant is

pub returns-then-not-part_stands : goal.returns-then-not-part_stands
returns-then-not-part_stands c =
    let a = c.args in
    let l = c.loop-i in
    let h = c.loop-i-test.true in
    let is = c.part_length-d.ensures in
    record {
      says = told_not a.text.now a.base a.n l.at l.i c.part_length-d.result c.requires.even h
          l.invariant is (refuted c.part_stands.ensures (ap not c.if-not-part_stands.true));
    }

pub overflow_add-i : goal.overflow_add-i
overflow_add-i c =
    let a = c.args in
    let l = c.loop-i in
    let h = c.loop-i-test.true in
    let is = c.part_length-d.ensures in
    let k = chunk a.n l.i h in
    omega (arith, is, k.within)

pub text_length-at-requires : goal.text_length-at-requires
text_length-at-requires c =
    let a = c.args in
    let l = c.loop-i in
    let h = c.loop-i-test.true in
    let is = c.part_length-d.ensures in
    let k = chunk a.n l.i h in
    let m = c.requires.most in
    (rw is (omega (arith, k.least)), rw is (omega (arith, k.within)))

pub overflow_sub-at : goal.overflow_sub-at
overflow_sub-at c = omega (arith, c.text_length-at.ensures)

pub loop-i-preserved : goal.loop-i-preserved
loop-i-preserved c =
    let a = c.args in
    let l = c.loop-i in
    let h = c.loop-i-test.true in
    let is = c.part_length-d.ensures in
    told_next a.text.now a.base a.n l.at l.i c.part_length-d.result c.requires.even h
    l.invariant is _
    (minus_twelve _ a.base (l.i + c.part_length-d.result) c.text_length-at.ensures)
    (granted c.part_stands.ensures (ap not c.if-not-part_stands.false))

pub returns-else-not-upper_stands : goal.returns-else-not-upper_stands
returns-else-not-upper_stands c = record { says = told_all c.loop-i-test.false c.loop-i.invariant }

pub returns-else-not-part_stands : goal.returns-else-not-part_stands
returns-else-not-part_stands c =
    let a = c.args in
    let l = c.loop-i in
    record {
      says = told_all {i = l.i + 16} (omega arith)
          (told_next a.text.now a.base a.n l.at l.i c.part_length-d.result c.requires.even c.loop-i-test.true l.invariant
          c.part_length-d.ensures _ (minus_twelve _ a.base (l.i + c.part_length-d.result) c.text_length-at.ensures)
          (granted c.part_stands.ensures (ap not c.if-not-part_stands.false)));
    }
