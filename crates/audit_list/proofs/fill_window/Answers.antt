use Rattle.audit_list.specs.Filling.{filled_none, filled_join, room_on}
use Rattle.audit_count.specs.Windows.{at_word, within_fits, within_on, stands_spent}
use Rattle.audit_step.specs.Stride.{by}
use lib.ListN.{length}
use native.Mathlib.Omega.{arith}
use Rattle.audit_list.proofs.fill_window.Goals as goal

pub loop-m-init : goal.loop-m-init
loop-m-init g c =
    let a = c.args in
    let (good, long, known, within, room) = c.requires in (
      filled_none g.U.Unit.writing (by a.vendor.now a.r a.d.four a.d.eight) a.shipped.now a.r a.places.now a.f
          (omega (arith, within.less)),
      known,
      within,
    )

pub fill_until-g-requires : goal.fill_until-g-requires
fill_until-g-requires g c =
    let a = c.args in
    let (good, long, known₀, within₀, room) = c.requires in
    let (filled, known, within) = c.loop-m.invariant in
    let left = room_on g.U.Unit.writing (by a.vendor.now a.r a.d.four a.d.eight) a.shipped.now a.r a.places.now
    c.loop-m.places a.f c.loop-m.g (g.U.Unit.places (length a.places.now)) filled room in
    (good, long, within.less, known, within.coming, rw filled.long left)

pub next_in-m-requires : goal.next_in-m-requires
next_in-m-requires g c =
    let a = c.args in
    within_fits a.vendor.now a.r c.requires.0 a.marks.now c.loop-m.g.at (at_word a.q c.loop-m.m)
    c.loop-m.invariant.2

pub shape_of-places-then-q-m : goal.shape_of-places-then-q-m
shape_of-places-then-q-m g c =
    let a = c.args in
    -- the places up to where the walk has come
    (filled_join g.U.Unit.writing (by a.vendor.now a.r a.d.four a.d.eight) a.shipped.now a.r a.places.now
    c.loop-m.places _ a.f c.loop-m.g c.fill_until-g.result c.loop-m.invariant.0 c.fill_until-g.ensures.filled).long

pub returns-then-q-m : goal.returns-then-q-m
returns-then-q-m g c =
    let a = c.args in
    let more = c.fill_until-g.ensures.filled in
    let on = c.fill_until-g.ensures.known in
    record {
      filled = filled_join g.U.Unit.writing (by a.vendor.now a.r a.d.four a.d.eight) a.shipped.now a.r a.places.now
          c.loop-m.places _ a.f c.loop-m.g c.fill_until-g.result c.loop-m.invariant.0 more;
      known = (
        on.0,
        omega (arith, c.loop-m.invariant.0.onward, on.1),
        stands_spent a.vendor.now a.r c.requires.0 a.marks.now c.loop-m.g.at (at_word a.q c.loop-m.m)
            c.loop-m.invariant.2 c.fill_until-g.result.at (omega (arith, on.1)) c.next_in-m.result
            c.next_in-m.ensures.0 c.if-q-m.true,
      );
    }

pub loop-m-smaller : goal.loop-m-smaller
loop-m-smaller g c =
    omega (arith, c.fill_until-g.ensures.known.1, c.loop-m.invariant.2.less)

pub loop-m-preserved : goal.loop-m-preserved
loop-m-preserved g c =
    let a = c.args in
    let more = c.fill_until-g.ensures.filled in
    let up = c.fill_until-g.ensures.known in
    let on = c.next_in-m.ensures in (
      filled_join g.U.Unit.writing (by a.vendor.now a.r a.d.four a.d.eight) a.shipped.now a.r a.places.now
          c.loop-m.places _ a.f c.loop-m.g c.fill_until-g.result c.loop-m.invariant.0 more,
      up.0,
      within_on a.vendor.now a.r c.requires.0 a.marks.now c.loop-m.g.at (at_word a.q c.loop-m.m)
          c.loop-m.invariant.2 c.fill_until-g.result.at (omega (arith, up.1)) c.next_in-m.result on.0 c.if-q-m.false
          (on.2 c.if-q-m.false),
    )
