use borrow.Author.Count.{below_more}
use native.Mathlib.Omega.{arith}
use Rattle.owners_check.proofs.skip.Goals as goal

pub loop-i-init : goal.loop-i-init
loop-i-init c = (omega (arith, c.requires), c.requires.2)

pub returns-then-k-w : goal.returns-then-k-w
returns-then-k-w c =
    let L = c.loop-i in
    let e = c.range_at-w.ensures.value in
    (record { within = omega arith; passed = L.invariant.1; ahead = λ h. rw e at c.if-k-w.true }, omega arith)

pub loop-i-preserved : goal.loop-i-preserved
loop-i-preserved c =
    let L = c.loop-i in
    let e = c.range_at-w.ensures.value in
    (omega arith, below_more _ _ L.invariant.1 (let h = rw e at c.if-k-w.false in omega arith))

pub returns : goal.returns
returns c =
    let L = c.loop-i in
    record { within = omega arith; passed = λ j h. L.invariant.1 j (omega arith); ahead = λ h. absurd (omega arith) }
