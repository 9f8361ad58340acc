use Rattle.std.specs.Prelude.{not}
use Rattle.std.proofs.Common.{◌+◌, ◌*◌, refl, ap, arith, add-one}
use Rattle.facts.specs.FactLaws.{granted, refuted}
use Rattle.hex_judge.specs.Stands.{bytes_at}
use Rattle.hex_judge.specs.StandsLaws.{stands_at, stands_more, total_more, byte_small}
use Rattle.hex_judge.proofs.sum_of.Goals as goal

pub loop-j-init : goal.loop-j-init
unfolding bytes_at
loop-j-init c = record { there = omega arith; is = refl; small = omega arith }

pub returns-then-not-is_pair : goal.returns-then-not-is_pair
returns-then-not-is_pair c =
    let a = c.args in
    λ g. refuted c.is_pair.ensures (ap not c.if-not-is_pair.true)
    (rw c.byte_at-b.ensures (stands_at a.text.now a.at c.loop-j.j a.d (omega arith) g))

pub loop-j-preserved : goal.loop-j-preserved
loop-j-preserved c =
    let a = c.args in
    let l = c.loop-j in
    let byte = c.byte_at-b.ensures in
    let digits = rw byte at (granted c.is_pair.ensures (ap not c.if-not-is_pair.false)) in
    record {
      there = rw add-one (stands_more a.text.now a.at l.j l.invariant.there digits);
      is = rw (add-one, total_more a.text.now a.at l.j) (omega (arith, byte, l.invariant.is));
      small = omega (arith, byte, byte_small a.text.now (a.at + 2 * l.j), l.invariant.small);
    }
