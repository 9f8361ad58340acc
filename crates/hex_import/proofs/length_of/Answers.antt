use native.Mathlib.Omega.{arith}
use Prim.Native.Nat.{◌+◌, ◌-◌, ◌/◌}
use mathlib.Core.Path.{sym, ◌∙◌}
use Rattle.hex_import.specs.ImportLaws.{halves_all, halve_low, halve_high, halved_none, halved}
use Rattle.hex_import.proofs.length_of.Goals as goal

pub loop-high-init : goal.loop-high-init
loop-high-init c = halves_all c.args.size c.args.base

pub overflow_sub-high : goal.overflow_sub-high
overflow_sub-high c = omega (arith, c.loop-high.invariant.order)

pub overflow_sub-mid : goal.overflow_sub-mid
overflow_sub-mid c = omega (arith, c.loop-high.invariant.order)

pub overflow_add-mid : goal.overflow_add-mid
overflow_add-mid c = omega (arith, c.loop-high.invariant.order, c.loop-high.invariant.most)

pub text_length-requires : goal.text_length-requires
text_length-requires c = let p = c.loop-high.invariant in (omega (arith, p.least), omega (arith, p.order, p.most, c.loop-high-test.true))

pub loop-high-smaller-then-text_length-size : goal.loop-high-smaller-then-text_length-size
loop-high-smaller-then-text_length-size c = omega (arith, c.loop-high-test.true, c.loop-high.invariant.order)

pub loop-high-preserved-then-text_length-size : goal.loop-high-preserved-then-text_length-size
loop-high-preserved-then-text_length-size c =
    let a = c.args in
    let l = c.loop-high in
    let mid = l.low + (l.high - l.low) / 2 in
    let more = c.loop-high-test.true in
    halve_low l.invariant mid (omega arith) (omega arith) (rw (← c.text_length.ensures) c.if-text_length-size.true)

pub loop-high-smaller : goal.loop-high-smaller
loop-high-smaller c = omega (arith, c.loop-high-test.true, c.loop-high.invariant.order)

pub loop-high-preserved : goal.loop-high-preserved
loop-high-preserved c =
    let a = c.args in
    let l = c.loop-high in
    let mid = l.low + (l.high - l.low) / 2 in
    let more = c.loop-high-test.true in
    halve_high l.invariant mid (omega arith) (omega arith) (rw (← c.text_length.ensures) c.if-text_length-size.false)

pub text_length-requires-2 : goal.text_length-requires-2
text_length-requires-2 c = let p = c.loop-high.invariant in (omega (arith, p.least), omega (arith, p.order, p.most))

pub returns-then-text_length-size-2 : goal.returns-then-text_length-size-2
returns-then-text_length-size-2 c =
    halved_none c.loop-high.invariant (omega (arith, c.loop-high-test.false)) (λ e. c.if-text_length-size-2.true (c.text_length-2.ensures ∙ e))

pub returns : goal.returns
returns c = halved c.loop-high.invariant (sym c.text_length-2.ensures ∙ c.if-text_length-size-2.false)
