use Rattle.std.specs.Prelude.{not}
use Rattle.std.proofs.Common.{ap}
use native.Mathlib.Omega.{arith}
use borrow.Author.Count.{below_more}
use Rattle.facts.specs.FactLaws.{granted}
use Rattle.inside_runs.specs.Runs.{InRoom}
use Rattle.inside_runs.proofs.any.Goals as goal

pub loop-i-init : goal.loop-i-init
loop-i-init c = (omega arith, λ i h. absurd (omega arith))

pub loop-i-preserved : goal.loop-i-preserved
loop-i-preserved c =
    let a = c.args in
    let w = c.width-w.ensures.0 in
    let e = c.le16-e.ensures.is in
    let g = granted c.is_sure.ensures (ap not c.if-not-is_sure.false) in
    let room : InRoom a.q c.le16-e.result = (omega (arith, w, g.0), g.1.0, omega (arith, w, g.1.1)) in
    (omega arith, below_more _ _ c.loop-i.invariant.1 (rw e at room))
