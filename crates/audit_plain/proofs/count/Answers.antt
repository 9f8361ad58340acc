use Prim.Native.Nat.{◌≤◌}
use native.Mathlib.Omega.{arith}
use Rattle.audit_plain.specs.PlainLaws.{counting_start, counting_on, counting_end}
use Rattle.audit_plain.proofs.count.Goals as goal

pub loop-at-init : goal.loop-at-init
loop-at-init c = counting_start c.args.vendor.now c.args.shipped.now

pub next-requires : goal.next-requires
next-requires c = omega (arith, c.loop-at.invariant.most, c.requires)

pub overflow_add-n : goal.overflow_add-n
overflow_add-n c = record { fits = omega (arith, c.loop-at.invariant.few, c.loop-at.invariant.most) }

pub loop-at-smaller : goal.loop-at-smaller
loop-at-smaller c = let (u, less) = c.in-Some.ensures in omega (arith, u.onward, less)

pub loop-at-preserved : goal.loop-at-preserved
loop-at-preserved c =
    let a = c.args in
    let (u, less) = c.in-Some.ensures in
    counting_on a.vendor.now a.shipped.now c.loop-at.n c.loop-at.k c.in-Some.at c.loop-at.invariant u less

pub returns : goal.returns
returns c =
    let a = c.args in
    counting_end a.vendor.now a.shipped.now c.loop-at.n c.loop-at.k c.loop-at.invariant c.in_default.ensures
