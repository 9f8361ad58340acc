use Prim.Native.Nat.{◌+◌, ◌%◌, ◌≤◌}
use native.Mathlib.Omega.{arith}
use Rattle.inside_runs.specs.Runs.{InGap}
use Rattle.inside_runs.specs.RunsLaws.{lain_none, lain_after}
use Rattle.inside_runs.proofs.run.Goals as goal

pub loop-i-init : goal.loop-i-init
loop-i-init c = (omega arith, lain_none _ _ _ _ _)

pub loop-i-preserved : goal.loop-i-preserved
loop-i-preserved c =
    let a = c.args in
    let xs = a.image.now in
    let i = c.loop-i.i in
    let w = c.width-w.ensures.0 in
    let e = c.le16-e.ensures.is in
    let gap : InGap a.q a.low a.high c.le16-e.result = (
      (omega (arith, w, c.if-w-eq0.false), c.if-o-q.false, omega (arith, w, c.min-cap)),
      omega (arith, c.loop-i.invariant.1.up),
      omega (arith, w, c.min-cap),
    ) in
    let later : c.loop-i.end ≤ a.q.at + c.le16-e.result % 4096 = omega arith in
    let more = lain_after xs a.q a.low a.high a.at i c.loop-i.end c.loop-i.invariant.1 (rw e at gap) (rw e at later) in
    (omega arith, rw (w, e) more)
