use Rattle.std.specs.Prelude.{not}
use Rattle.std.proofs.Common.{ap}
use native.Mathlib.Omega.{arith}
use borrow.Author.Count.{below_more}
use Rattle.facts.specs.FactLaws.{granted}
use Rattle.apart_strokes.specs.StrokesLaws.{false_true}
use Rattle.apart_few.specs.FewLaws.{beside_all}
use Rattle.apart_few.proofs.is_beside.Goals as goal

pub loop-i-init : goal.loop-i-init
loop-i-init c = λ j h. absurd (omega arith)

pub spot_at-p-requires : goal.spot_at-p-requires
spot_at-p-requires c =
    let patch = c.requires.0 in
    (omega (arith, patch.table), patch.good c.loop-i.i (omega arith))

pub is_off-requires : goal.is_off-requires
is_off-requires c =
    let pre = c.requires in
    (pre.1, omega (arith, c.spot_at-p.ensures, pre.0.ends c.loop-i.i (omega arith), pre.0.small))

pub returns-then-not-is_off : goal.returns-then-not-is_off
returns-then-not-is_off c = λ e. false_true e

pub loop-i-preserved : goal.loop-i-preserved
loop-i-preserved c =
    let inv = c.loop-i.invariant in
    below_more _ _ inv (rw c.spot_at-p.ensures at (granted c.is_off.ensures (ap not c.if-not-is_off.false)))

pub returns : goal.returns
returns c =
    λ e.
    let a = c.args in
    beside_all a.image.now a.t a.n a.x (λ j h. c.loop-i.invariant j (omega arith))
