use Rattle.audit_list.specs.Filling.{filled_none, filled_join, room_on, filled_all}
use Rattle.audit_count.specs.Windows.{within_window}
use Rattle.audit_step.specs.NextLaws.{ordered}
use Rattle.audit_step.specs.Stride.{by}
use Rattle.audit_tables.specs.AheadLaws.{known_start}
use Rattle.audit_fill_window.specs.Near as near
use lib.ListN.{length}
use Prim.Native.Nat.{◌-◌}
use mathlib.Core.Path.{◌≡◌, refl, ◌∙◌}
use native.Mathlib.Omega.{arith}
use Rattle.audit_list.proofs.fill_walk.Given.{Over}
use Rattle.audit_list.proofs.fill_walk.Goals.{After-le64-v}
use Rattle.audit_list.proofs.fill_walk.Goals as goal

-- the modules' words can be looked for
volume : (g : Over) (c : After-le64-v g) →
    let a = c.args in
    near.Ordered a.vendor.now c.le64-v.result (a.r.H - 28)
volume g c = ordered c.args.vendor.now c.args.r c.requires.0 c.le64-v.result c.le64-v.ensures.is

pub le64-v-requires : goal.le64-v-requires
le64-v-requires g c = omega (arith, c.requires.0.length_least)

pub overflow_sub-h : goal.overflow_sub-h
overflow_sub-h g c = omega (arith, c.requires.0.file_at_lem)

pub open-q-requires : goal.open-q-requires
open-q-requires g c = (volume g (goal.at.open-q-requires g c).After-le64-v).walkable

pub start-requires : goal.start-requires
start-requires g c = let good = c.requires.0 in omega (arith, good)

pub loop-f-init : goal.loop-f-init
loop-f-init g c =
    let a = c.args in
    let next = c.start in (
      filled_none g.U.Unit.writing (by a.vendor.now a.r a.d.four a.d.eight) a.shipped.now a.r a.places.now _ (omega arith),
      known_start a.vendor.now a.r a.ranks.now c.requires.0 c.requires.4 next.result next.ensures,
      c.open-q.ensures a.marks.now,
      refl,
    )

pub current-q-requires : goal.current-q-requires
current-q-requires g c =
    let inv = c.loop-f.invariant in
    (volume g (goal.at.current-q-requires g c).After-le64-v, inv.2, omega (arith, inv.3, c.requires.3))

pub fill_window-f-requires : goal.fill_window-f-requires
fill_window-f-requires g c =
    let a = c.args in
    let inv = c.loop-f.invariant in
    let (stands, next) = c.current-q.ensures.standing in
    let within = within_window a.vendor.now a.r c.requires.0 _ c.loop-f.f.at c.current-q.result
    c.le64-v.result c.le64-v.ensures.is (omega arith) stands next in
    let e : length a.shipped.now - 0 ≡ length a.shipped.now = omega arith in
    let left = room_on g.U.Unit.writing (by a.vendor.now a.r a.d.four a.d.eight) a.shipped.now a.r a.places.now
    c.loop-f.places _ c.loop-f.f (g.U.Unit.places (length a.places.now)) inv.0 (rw e (omega (arith, c.requires.2))) in
    (c.requires.0, c.requires.1, inv.1, within, rw inv.0.long left)

pub loop-f-smaller : goal.loop-f-smaller
loop-f-smaller g c = omega (arith, c.fill_window-f.ensures.known.1)

pub loop-f-preserved : goal.loop-f-preserved
loop-f-preserved g c =
    let a = c.args in
    let inv = c.loop-f.invariant in
    let u = c.fill_window-f in
    let filled = filled_join g.U.Unit.writing (by a.vendor.now a.r a.d.four a.d.eight) a.shipped.now a.r a.places.now
    c.loop-f.places _ _ c.loop-f.f u.result inv.0 u.ensures.filled in
    (filled, u.ensures.known.0, rw c.le64-v.ensures.is u.ensures.known.2, c.current-q.ensures.marks_len_unchanged ∙ inv.3)

pub shape_of-places : goal.shape_of-places
shape_of-places g c = c.loop-f.invariant.0.long

pub shape_of-marks : goal.shape_of-marks
shape_of-marks g c = c.loop-f.invariant.3

pub returns : goal.returns
returns g c =
    let a = c.args in
    filled_all g.U.Unit.writing (by a.vendor.now a.r a.d.four a.d.eight) a.shipped.now a.r a.places.now c.loop-f.places _
    c.loop-f.f c.loop-f.invariant.0 (omega (arith, c.requires.1))
