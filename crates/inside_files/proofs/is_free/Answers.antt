use Rattle.std.specs.Prelude.{not}
use Rattle.std.proofs.Common.{ap}
use mathlib.Core.Logic.{inl, inr}
use native.Mathlib.Decide.{dec_lt}
use Rattle.facts.specs.FactLaws.{refuted}
use Prim.Native.Nat.{◌+◌, ◌-◌}
use mathlib.Core.Path.{◌≡◌}
use native.Mathlib.Omega.{arith}
use borrow.Author.Count.{below_more}
use borrow.Author.Rules.{rules}
use Rattle.inside_files.proofs.is_free.Goals as goal

pub returns-then-not-may_be_free : goal.returns-then-not-may_be_free
returns-then-not-may_be_free c =
    let a = c.args in
    let e : a.f + 0 ≡ a.f = omega arith in
    let other = refuted c.may_be_free.ensures (ap not c.if-not-may_be_free.true) in
    record { says = λ p. elim (dec_lt a.f a.v) [ yes l ↦ other (inr (rw e at (p 0 (omega arith)))) | no l ↦ other (inl (omega arith)) ] }

pub loop-i-init : goal.loop-i-init
loop-i-init c = (omega (arith, c.skip_free-i.ensures.0), c.skip_free-i.ensures.1)

pub returns-then-image-f : goal.returns-then-image-f
returns-then-image-f c = record { says = λ p. c.if-image-f.true (p c.loop-i.i (omega arith)) }

pub loop-i-preserved : goal.loop-i-preserved
loop-i-preserved c = (search rules, below_more _ _ c.loop-i.invariant.1 c.if-image-f.false)

pub returns : goal.returns
returns c = record { says = λ i l. c.loop-i.invariant.1 i (omega arith) }
