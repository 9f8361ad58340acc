use Rattle.audit_marks.specs.MarkLaws.{clear_more, first_on}
use mathlib.Core.Path.{◌≡◌}
use native.Mathlib.Omega.{arith}
use Rattle.audit_marks.proofs.first_mark.Goals as goal

pub returns-then-n-j-ge8 : goal.returns-then-n-j-ge8
returns-then-n-j-ge8 c =
    let a = c.args in
    let k = c.skip_eights-j.result in
    let (low, high, clear) = c.skip_eights-j.ensures.lower_bound in
    let some = c.skip_eights-j.ensures.fact in
    first_on a.marks.now a.i a.n k c.first_of_eight.result low (omega arith) clear (some (omega arith))
    c.first_of_eight.ensures

pub loop-k-init : goal.loop-k-init
loop-k-init c = c.skip_eights-j.ensures.lower_bound

pub returns-then-marks-k-ne0 : goal.returns-then-marks-k-ne0
returns-then-marks-k-ne0 c =
    let (low, high, clear) = c.loop-k.invariant in
    (record { onward = low; most = omega arith; clear = clear; here = λ l. c.if-marks-k-ne0.true }, omega arith)

pub loop-k-preserved : goal.loop-k-preserved
loop-k-preserved c =
    let L = c.loop-k in
    let a = c.args in
    let (low, high, clear) = L.invariant in
    (omega arith, omega arith, clear_more a.marks.now a.i L.k clear c.if-marks-k-ne0.false)

pub returns : goal.returns
returns c =
    let (low, high, clear) = c.loop-k.invariant in
    let e : c.loop-k.k ≡ c.args.n = omega arith in
    record { onward = omega arith; most = omega arith; clear = rw e at clear; here = λ l. absurd (omega arith) }
