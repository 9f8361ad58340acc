use Rattle.std.specs.Prelude.{not}
use Rattle.std.proofs.Common.{ap}
use Prim.Native.Nat.{◌≤◌, ◌%◌, ◌+◌}
use native.Mathlib.Omega.{arith}
use borrow.Author.Tests.{not-false}
use Rattle.facts.specs.FactLaws.{granted}
use Rattle.inside_runs.specs.Runs.{InGap}
use Rattle.inside_runs.specs.RunsLaws.{width_some, lain_none, strewing_more}
use Rattle.inside_runs.proofs.strewn.Goals as goal

pub loop-i-init : goal.loop-i-init
loop-i-init c = (
  omega arith,
  record { lain = lain_none _ _ _ _ _; long = c.requires.marks_len; marked = λ i h. absurd (omega arith) },
)

pub returns-then-not-is_sure : goal.returns-then-not-is_sure
returns-then-not-is_sure c = (omega arith, c.loop-i.invariant.1.lain)

pub returns-then-from-low : goal.returns-then-from-low
returns-then-from-low c = (omega arith, c.loop-i.invariant.1.lain)

pub returns-then-high-from : goal.returns-then-high-from
returns-then-high-from c = (omega arith, c.loop-i.invariant.1.lain)

pub mark-requires : goal.mark-requires
mark-requires c =
    let w = c.width-w.ensures.0 in
    let g = granted c.is_sure.ensures (ap not c.if-not-is_sure.false) in
    (omega (arith, c.loop-i.invariant.1.long), rw w (width_some _ (λ z. omega (arith, g.0, w))))

pub returns-then-not-mark : goal.returns-then-not-mark
returns-then-not-mark c = (omega arith, c.loop-i.invariant.1.lain)

pub loop-i-preserved : goal.loop-i-preserved
loop-i-preserved c =
    let a = c.args in
    let xs = a.image.now in
    let i = c.loop-i.i in
    let s = c.loop-i.invariant.1 in
    let w = c.width-w.ensures.0 in
    let e = c.le16-e.ensures.is in
    let g = granted c.is_sure.ensures (ap not c.if-not-is_sure.false) in
    let gap : InGap a.q a.low a.high c.le16-e.result = (
      (omega (arith, w, g.0), g.1.0, omega (arith, w, g.1.1)),
      c.if-from-low.false,
      omega (arith, w, c.if-high-from.false),
    ) in
    let p = c.mark.ensures.all (not-false _ (ap not c.if-not-mark.false)) in
    let own : a.q.at + c.le16-e.result % 4096 + c.width-w.result ≤ c.max-end.result = omega arith in
    let more = strewing_more xs a.q a.low a.high a.at i c.loop-i.end _ _ _ s (rw e at gap) (rw (w, e) at p) in
    (omega arith, more (omega arith) (rw (w, e) at own) (λ h. omega (arith, s.lain.most h)))
