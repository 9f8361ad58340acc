use Rattle.std.specs.Prelude.{not}
use Rattle.facts.specs.FactLaws.{granted, refuted}
use borrow.Author.Count.{below_more}
use mathlib.Core.Path.{refl, ap}
use native.Mathlib.Numerals.{add-one}
use native.Mathlib.Omega.{arith}
use Rattle.owners.proofs.list_fits.Goals as goal

pub returns-then-owners-ne0 : goal.returns-then-owners-ne0
returns-then-owners-ne0 c = record { says = λ h. c.if-owners-ne0.true h.0 }

pub returns-then-n-gt64 : goal.returns-then-n-gt64
returns-then-n-gt64 c = record { says = λ h. omega (arith, h.1.0) }

pub loop-i-init : goal.loop-i-init
loop-i-init c = (omega arith, refl, λ k h. absurd (omega arith))

pub returns-then-not-range_fits : goal.returns-then-not-range_fits
returns-then-not-range_fits c =
    let L = c.loop-i in
    record {
      says = λ h.
          refuted c.range_fits.ensures (ap not c.if-not-range_fits.true)
          (rw (c.range_at-w.ensures.value, L.invariant.1) (h.1.1 L.i (omega arith)));
    }

pub loop-i-preserved : goal.loop-i-preserved
loop-i-preserved c =
    let L = c.loop-i in
    let e = c.range_at-w.ensures.value in (
      omega arith,
      rw add-one (rw e),
      below_more _ _ L.invariant.2 (rw (e, L.invariant.1) at (granted c.range_fits.ensures (ap not c.if-not-range_fits.false))),
    )

pub returns : goal.returns
returns c =
    let L = c.loop-i in
    record { says = (omega arith, (omega arith, λ k h. L.invariant.2 k (omega arith))) }
