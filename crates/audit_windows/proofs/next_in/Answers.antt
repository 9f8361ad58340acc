use Rattle.audit_fill_window.specs.StandingLaws.{onward_pass}
use Prim.Native.Nat.{◌-◌}
use native.Mathlib.Omega.{arith}
use Rattle.audit_windows.proofs.next_in.Goals as goal

pub loop-m-init : goal.loop-m-init
loop-m-init c = let p = c.requires in (p.0, p.1, p.4, λ xs v f spot ordered standing. standing)

pub overflow_add-m : goal.overflow_add-m
overflow_add-m c =
    omega (arith, c.loop-m.invariant.2 c.loop-m-test.true)

pub returns-then-at-m : goal.returns-then-at-m
returns-then-at-m c =
    let (low, most, small, on) = c.loop-m.invariant in
    (on, most, λ h. c.if-at-m.true)

pub overflow_sub-i : goal.overflow_sub-i
overflow_sub-i c = omega (arith, c.loop-m.invariant.0)

pub overflow_add-i : goal.overflow_add-i
overflow_add-i c = omega (arith, c.loop-m.invariant.0)

pub settle-m-requires : goal.settle-m-requires
settle-m-requires c =
    let p = c.requires in
    (omega (arith, c.loop-m.invariant.0, c.loop-m-test.true), p.2, p.3)

pub loop-m-smaller : goal.loop-m-smaller
loop-m-smaller c =
    omega (arith, c.loop-m.invariant.0, c.loop-m-test.true, c.settle-m.ensures.onward)

pub loop-m-preserved : goal.loop-m-preserved
loop-m-preserved c =
    let a = c.args in
    let (low, most, small, on) = c.loop-m.invariant in
    let settled = c.settle-m.ensures in
    let m = c.loop-m.m in
    let r = c.settle-m.result in
    let byte = c.type_inv.marks (r.at - a.from) in (
      omega (arith, low, settled.onward),
      settled.most,
      (λ h. omega (arith, (settled.here h).0, byte, c.requires.3)),
      onward_pass a.marks.now a.from a.to a.at _ m r c.loop-m-test.true c.if-at-m.false on settled,
    )

pub returns : goal.returns
returns c =
    let (low, most, small, on) = c.loop-m.invariant in
    (on, most, λ h. absurd (omega (arith, c.loop-m-test.false)))
