use native.Mathlib.Omega.{arith}
use lib.ListN.{length}
use Rattle.audit_plain.specs.PlainLaws.{room, listing_start, listing_on, listing_end}
use Rattle.audit_plain.proofs.list.Goals as goal

pub loop-at-init : goal.loop-at-init
loop-at-init g c =
    let a = c.args in
    listing_start a.vendor.now a.shipped.now g.U.Unit.writing a.places.now

pub next-requires : goal.next-requires
next-requires g c = omega (arith, c.loop-at.invariant.counting.most, c.requires.0)

pub overflow_cast-at : goal.overflow_cast-at
overflow_cast-at g c = let (u, less) = c.in-Some.ensures in record { fits = omega (arith, less, c.requires.0, c.requires.1) }

pub overflow_add-at : goal.overflow_add-at
overflow_add-at g c = let (u, less) = c.in-Some.ensures in record { fits = omega (arith, less, c.requires.0, c.requires.1) }

pub put-requires : goal.put-requires
put-requires g c =
    let a = c.args in
    let l = c.loop-at in
    let (u, less) = c.in-Some.ensures in
    rw l.invariant.long
    (room a.vendor.now a.shipped.now l.i l.k c.in-Some.at l.invariant.counting u less (g.U.Unit.places (length a.places.now)) c.requires.2)

pub overflow_add-i : goal.overflow_add-i
overflow_add-i g c = record { fits = omega (arith, c.loop-at.invariant.counting.few, c.loop-at.invariant.counting.most) }

pub loop-at-smaller : goal.loop-at-smaller
loop-at-smaller g c = let (u, less) = c.in-Some.ensures in omega (arith, u.onward, less)

pub loop-at-preserved : goal.loop-at-preserved
loop-at-preserved g c =
    let a = c.args in
    let l = c.loop-at in
    let (u, less) = c.in-Some.ensures in
    rw c.put.ensures
    (listing_on a.vendor.now a.shipped.now g.U.Unit.writing a.places.now l.places l.i l.k c.in-Some.at l.invariant u less)

pub shape_of-places : goal.shape_of-places
shape_of-places g c = c.loop-at.invariant.long

pub returns : goal.returns
returns g c =
    let a = c.args in
    let l = c.loop-at in
    listing_end a.vendor.now a.shipped.now g.U.Unit.writing a.places.now l.places l.i l.k l.invariant c.in_default.ensures
