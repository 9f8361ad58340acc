use Rattle.audit_count.specs.Windows.{at_word, within_fits, within_on, stands_spent}
use Prim.Native.Nat.{◌-◌}
use native.Mathlib.Omega.{arith}
use Rattle.audit_count.proofs.count_window.Goals as goal

pub loop-m-init : goal.loop-m-init
loop-m-init c = let p = c.requires in (p.left, p.guaranteed.2, p.guaranteed.3, omega arith)

pub count_until-u-requires : goal.count_until-u-requires
count_until-u-requires c =
    let (left, standing, within, up) = c.loop-m.invariant in
    record { guaranteed = (c.requires.guaranteed.0, c.requires.guaranteed.1, within.less, standing, within.coming); left = left }

pub next_in-m-requires : goal.next_in-m-requires
next_in-m-requires c =
    let a = c.args in
    within_fits a.vendor.now a.r c.requires.guaranteed.0 a.marks.now c.loop-m.u.at (at_word a.q c.loop-m.m)
    c.loop-m.invariant.2

pub returns-then-q-m : goal.returns-then-q-m
returns-then-q-m c =
    let a = c.args in
    let (left, standing, more) = c.count_until-u.ensures in (
      left,
      standing,
      omega (arith, c.loop-m.invariant.3),
      stands_spent a.vendor.now a.r c.requires.guaranteed.0 a.marks.now c.loop-m.u.at (at_word a.q c.loop-m.m)
          c.loop-m.invariant.2 c.count_until-u.result.at (omega arith) c.next_in-m.result c.next_in-m.ensures.0
          c.if-q-m.true,
    )

pub loop-m-smaller : goal.loop-m-smaller
loop-m-smaller c =
    omega (arith, c.count_until-u.ensures.2, c.loop-m.invariant.2.less)

pub loop-m-preserved : goal.loop-m-preserved
loop-m-preserved c =
    let a = c.args in
    let (left, standing, more) = c.count_until-u.ensures in
    let on = c.next_in-m.ensures in (
      left,
      standing,
      within_on a.vendor.now a.r c.requires.guaranteed.0 a.marks.now c.loop-m.u.at (at_word a.q c.loop-m.m)
          c.loop-m.invariant.2 c.count_until-u.result.at (omega arith) c.next_in-m.result on.0 c.if-q-m.false
          (on.2 c.if-q-m.false),
      omega (arith, c.loop-m.invariant.3),
    )
