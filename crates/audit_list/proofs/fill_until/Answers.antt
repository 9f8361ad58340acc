use Rattle.audit_list.specs.Filling.{filled_none, filled_join, room_on}
use Rattle.audit_step.specs.NextLaws.{coming_on, ending_past, ending_most, coming_fits}
use Rattle.audit_step.specs.Stride.{by}
use lib.ListN.{length}
use Prim.Native.Nat.{◌≤◌, ◌<◌}
use native.Mathlib.Omega.{arith}
use Rattle.audit_list.proofs.fill_until.Goals as goal

pub end_of-end-requires : goal.end_of-end-requires
end_of-end-requires g c =
    let a = c.args in
    coming_fits a.vendor.now a.r c.requires.0 a.f.at a.p a.m c.requires.4

pub loop-g-init : goal.loop-g-init
loop-g-init g c =
    let a = c.args in (
      filled_none g.U.Unit.writing (by a.vendor.now a.r a.d.four a.d.eight) a.shipped.now a.r a.places.now a.f
          (omega (arith, c.requires.2, c.requires.1)),
      c.requires.3,
    )

pub fill_step-g-requires : goal.fill_step-g-requires
fill_step-g-requires g c =
    let a = c.args in
    let (good, long, less, known, coming, room) = c.requires in
    let u = c.loop-g.g in
    let inv = c.loop-g.invariant in
    let on = coming_on a.vendor.now a.r good a.f.at a.p a.m coming u.at inv.0.onward
    (rw c.end_of-end.ensures at c.loop-g-test.true) in
    let left = room_on g.U.Unit.writing (by a.vendor.now a.r a.d.four a.d.eight) a.shipped.now a.r a.places.now
    c.loop-g.places a.f u (g.U.Unit.places (length a.places.now)) inv.0 room in
    -- where that word ends
    let past : (a.f.at < c.end_of-end.result) × (c.end_of-end.result ≤ length a.vendor.now) =
    rw c.end_of-end.ensures (
      ending_past a.vendor.now a.r good a.f.at a.p a.m coming less,
      ending_most a.vendor.now a.r good a.f.at a.p a.m coming,
    ) in
    (good, long, omega (arith, past), inv.1, on, rw inv.0.long left)

pub loop-g-smaller : goal.loop-g-smaller
loop-g-smaller g c = omega (arith, c.fill_step-g.ensures.known.1)

pub loop-g-preserved : goal.loop-g-preserved
loop-g-preserved g c =
    let a = c.args in
    let inv = c.loop-g.invariant in (
      filled_join g.U.Unit.writing (by a.vendor.now a.r a.d.four a.d.eight) a.shipped.now a.r a.places.now
          c.loop-g.places
          _ a.f c.loop-g.g c.fill_step-g.result inv.0 c.fill_step-g.ensures.filled,
      c.fill_step-g.ensures.known.0,
    )

pub shape_of-places : goal.shape_of-places
shape_of-places g c = c.loop-g.invariant.0.long

pub returns : goal.returns
returns g c =
    let a = c.args in
    let past : (a.f.at < c.end_of-end.result) × (c.end_of-end.result ≤ length a.vendor.now) =
    rw c.end_of-end.ensures (
      ending_past a.vendor.now a.r c.requires.0 a.f.at a.p a.m c.requires.4 c.requires.2,
      ending_most a.vendor.now a.r c.requires.0 a.f.at a.p a.m c.requires.4,
    ) in
    let inv = c.loop-g.invariant in
    record { filled = inv.0; known = (inv.1, omega (arith, past)) }
