use Rattle.audit_count.specs.CountingLaws.{left_start, left_end}
use Rattle.audit_count.specs.Windows.{within_window}
use Rattle.audit_step.specs.NextLaws.{ordered}
use Rattle.audit_step.specs.Stride.{by}
use Rattle.audit_tables.specs.AheadLaws.{known_start}
use Rattle.audit_fill_window.specs.Near as near
use Prim.Native.Nat.{◌-◌}
use mathlib.Core.Path.{refl, ◌∙◌}
use native.Mathlib.Omega.{arith}
use Rattle.audit_count.proofs.walk_all.Goals as goal

-- the modules' words can be looked for
volume : (c : goal.After-struct_known-1) →
    let a = c.args in
    near.Ordered a.vendor.now c.le64-v.result (a.r.H - 28)
volume c =
    ordered c.args.vendor.now c.args.r c.requires.0 c.le64-v.result c.le64-v.ensures.is

volume-at-2 : (c : goal.After-current-arg-1) →
    let a = c.args in
    near.Ordered a.vendor.now c.le64-v.result (a.r.H - 28)
volume-at-2 c =
    ordered c.args.vendor.now c.args.r c.requires.0 c.le64-v.result c.le64-v.ensures.is

pub le64-v-requires : goal.le64-v-requires
le64-v-requires c = omega (arith, c.requires.0.length_least)

pub overflow_sub-f : goal.overflow_sub-f
overflow_sub-f c = omega (arith, c.requires.0.file_at_lem)

pub open-q-requires : goal.open-q-requires
open-q-requires c = (volume c).walkable

pub start-requires : goal.start-requires
start-requires c = let g = c.requires.0 in omega (arith, g)

pub loop-t-init : goal.loop-t-init
loop-t-init c =
    let a = c.args in
    let next = c.start in (
      left_start (by a.vendor.now a.r a.d.four a.d.eight) a.shipped.now a.r next.result,
      record {
        most = omega arith;
        known = known_start a.vendor.now a.r a.ranks.now c.requires.0 c.requires.3 next.result next.ensures;
        few = omega arith;
        few_bits = omega arith;
      },
      c.open-q.ensures a.marks.now,
      refl,
    )

pub current-q-requires : goal.current-q-requires
current-q-requires c =
    let inv = c.loop-t.invariant in
    (volume-at-2 c, inv.2, omega (arith, inv.3, c.requires.2))

pub count_window-t-requires : goal.count_window-t-requires
count_window-t-requires c =
    let a = c.args in
    let inv = c.loop-t.invariant in
    let (stands, next) = c.current-q.ensures.standing in
    let within = within_window a.vendor.now a.r c.requires.0 _ c.loop-t.t.at c.current-q.result
    c.le64-v.result c.le64-v.ensures.is (omega arith) stands next in
    record { guaranteed = (c.requires.0, c.requires.1, inv.1, within); left = inv.0 }

pub loop-t-smaller : goal.loop-t-smaller
loop-t-smaller c = omega (arith, c.count_window-t.ensures.2)

pub loop-t-preserved : goal.loop-t-preserved
loop-t-preserved c =
    let u = c.count_window-t.ensures in
    (u.0, u.1, rw c.le64-v.ensures.is u.3, c.current-q.ensures.marks_len_unchanged ∙ c.loop-t.invariant.3)

pub shape_of-marks : goal.shape_of-marks
shape_of-marks c = c.loop-t.invariant.3

pub returns : goal.returns
returns c =
    let a = c.args in
    left_end (by a.vendor.now a.r a.d.four a.d.eight) a.shipped.now a.r c.loop-t.t c.loop-t.invariant.0
    (omega (arith, c.requires.1))
