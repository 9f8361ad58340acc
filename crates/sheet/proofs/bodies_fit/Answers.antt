use Rattle.std.specs.Prelude.{not}
use Rattle.sheet.specs.Sheet.{count, size, offset, body_at}
use Rattle.sheet.specs.declared.Entry.{Entry}
use Rattle.facts.specs.FactLaws.{granted, refuted}
use borrow.Author.Count.{below_more}
use mathlib.Core.Path.{◌≡◌, refl, ap, sym, ◌∙◌}
use native.Mathlib.Numerals.{add-one}
use native.Mathlib.Omega.{arith}
use Rattle.sheet.proofs.bodies_fit.Goals as goal

pub loop-i-init : goal.loop-i-init
unfolding body_at
loop-i-init c = (omega arith, omega (arith, c.le16-m.ensures.is), refl, omega arith, λ k h. absurd (omega arith))

pub returns-then-not-entry_fits : goal.returns-then-not-entry_fits
returns-then-not-entry_fits c =
    let L = c.loop-i in
    record {
      says = λ h.
          refuted c.entry_fits.ensures (ap not c.if-not-entry_fits.true)
          (rw (c.entry_at-w.ensures.value, L.invariant.1, L.invariant.2) (h.0 L.i (omega (arith, c.le16-m.ensures.is))));
    }

pub loop-i-preserved : goal.loop-i-preserved
unfolding body_at
loop-i-preserved c =
    let L = c.loop-i in
    let s = c.args.sheet.now in
    let e = c.entry_at-w.ensures.value in
    let sz : c.entry_at-w.result.size ≡ size s L.i = ap (λ (w : Entry). w.size) e in
    let of : c.entry_at-w.result.offset ≡ offset s L.i = ap (λ (w : Entry). w.offset) e in (
      omega arith,
      rw add-one (omega (arith, sz, L.invariant.1)),
      rw add-one (omega (arith, sz, of)),
      omega (arith, c.entry_at-w.ensures.offset_bound),
      below_more _ _ L.invariant.4 (rw (e, L.invariant.1, L.invariant.2) at (granted c.entry_fits.ensures (ap not c.if-not-entry_fits.false))),
    )

pub returns-then-body-sheet : goal.returns-then-body-sheet
returns-then-body-sheet c =
    let L = c.loop-i in
    let s = c.args.sheet.now in
    let e : L.i ≡ count s = omega (arith, c.le16-m.ensures.is) in
    let body : L.body ≡ body_at s (count s) = L.invariant.1 ∙ ap (body_at s) e in
    record { says = λ h. c.if-body-sheet.true (body ∙ h.1) }

pub returns : goal.returns
returns c =
    let L = c.loop-i in
    let s = c.args.sheet.now in
    let e : L.i ≡ count s = omega (arith, c.le16-m.ensures.is) in
    let body : L.body ≡ body_at s (count s) = L.invariant.1 ∙ ap (body_at s) e in
    record { says = ((λ k h. L.invariant.4 k (omega arith)), sym body ∙ c.if-body-sheet.false) }
