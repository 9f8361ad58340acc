use Rattle.audit_count.specs.CountingLaws.{left_step}
use Rattle.audit_step.specs.NextLaws.{coming_on, ending_past, ending_most, coming_fits}
use Rattle.audit_step.specs.Stride.{by}
use lib.ListN.{length}
use Prim.Native.Nat.{◌-◌, ◌≤◌, ◌<◌}
use native.Mathlib.Omega.{arith}
use Rattle.audit_count.proofs.count_until.Goals as goal

pub end_of-end-requires : goal.end_of-end-requires
end_of-end-requires c =
    let a = c.args in
    coming_fits a.vendor.now a.r c.requires.guaranteed.0 a.t.at a.p a.m c.requires.guaranteed.4

pub loop-u-init : goal.loop-u-init
loop-u-init c = (c.requires.left, c.requires.guaranteed.3, omega arith)

pub count_step-u-requires : goal.count_step-u-requires
count_step-u-requires c =
    let a = c.args in
    let (g, long, less, standing, coming) = c.requires.guaranteed in
    let u = c.loop-u.u in
    let inv = c.loop-u.invariant in
    let on = coming_on a.vendor.now a.r g a.t.at a.p a.m coming u.at inv.2
    (rw c.end_of-end.ensures at c.loop-u-test.true) in
    -- where that word ends
    let past : (a.t.at < c.end_of-end.result) × (c.end_of-end.result ≤ length a.vendor.now) =
    rw c.end_of-end.ensures (
      ending_past a.vendor.now a.r g a.t.at a.p a.m coming less,
      ending_most a.vendor.now a.r g a.t.at a.p a.m coming,
    ) in
    (g, long, omega (arith, past), inv.1, on)

pub loop-u-smaller : goal.loop-u-smaller
loop-u-smaller c = omega (arith, c.count_step-u.ensures.counted.onward)

pub loop-u-preserved : goal.loop-u-preserved
loop-u-preserved c =
    let a = c.args in
    let inv = c.loop-u.invariant in
    let step = c.count_step-u in (
      left_step (by a.vendor.now a.r a.d.four a.d.eight) a.shipped.now a.r c.loop-u.u step.result inv.0
          step.ensures.counted,
      step.ensures.standing,
      omega (arith, inv.2, step.ensures.counted.onward),
    )

pub returns : goal.returns
returns c =
    let a = c.args in
    let past : (a.t.at < c.end_of-end.result) × (c.end_of-end.result ≤ length a.vendor.now) =
    rw c.end_of-end.ensures (
      ending_past a.vendor.now a.r c.requires.guaranteed.0 a.t.at a.p a.m c.requires.guaranteed.4 c.requires.guaranteed.2,
      ending_most a.vendor.now a.r c.requires.guaranteed.0 a.t.at a.p a.m c.requires.guaranteed.4,
    ) in
    let inv = c.loop-u.invariant in
    (inv.0, inv.1, omega (arith, past))
