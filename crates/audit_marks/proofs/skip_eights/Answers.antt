use Rattle.audit_marks.specs.MarkLaws.{clear_eight}
use mathlib.Core.Path.{sym, ◌∙◌}
use native.Mathlib.Omega.{arith}
use Rattle.audit_marks.proofs.skip_eights.Goals as goal

pub loop-k-init : goal.loop-k-init
loop-k-init c = (omega arith, omega arith, λ j h l. absurd (omega arith))

pub returns-then-le64-ne0 : goal.returns-then-le64-ne0
returns-then-le64-ne0 c = record { lower_bound = c.loop-k.invariant; fact = λ l e. c.if-le64-ne0.true (c.le64.ensures.is ∙ e) }

pub loop-k-preserved : goal.loop-k-preserved
loop-k-preserved c =
    let L = c.loop-k in
    let a = c.args in
    let (low, high, h) = L.invariant in
    (omega arith, omega arith, clear_eight a.marks.now a.i L.k h (sym c.le64.ensures.is ∙ c.if-le64-ne0.false))

pub returns : goal.returns
returns c = record { lower_bound = c.loop-k.invariant; fact = λ l. absurd (omega arith) }
