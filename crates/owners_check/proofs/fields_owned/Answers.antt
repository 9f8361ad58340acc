use Rattle.owners.specs.Owners.{owned}
use Rattle.owners.specs.OwnersLaws.{passed_on}
use Rattle.sheet.specs.Sheet.{offset, size, entry_at}
use Rattle.sheet.specs.declared.Entry.{Entry}
use Rattle.facts.specs.Fact.{Tells, every}
use Rattle.facts.specs.FactLaws.{granted, refuted}
use borrow.Author.Count.{below_more}
use Rattle.std.specs.Prelude.{Bool, true, false, List, refl}
use Prim.Native.Nat.{ℕ, ◌+◌, ◌-◌}
use mathlib.Core.Path.{◌≡◌, ap}
use native.Mathlib.Numerals.{add-one}
use native.Mathlib.Omega.{arith}
use Rattle.owners_check.proofs.fields_owned.Goals as goal

-- what a walk over the bytes of entry i told
walked : (s o : List ℕ) (owner i : ℕ) (w : Entry) (r : Bool) → w ≡ entry_at s i
    → Tells r (every (w.offset + w.size - w.offset) (λ j. owned o owner (w.offset + j)))
    → Tells r (every (size s i) (λ j. owned o owner (offset s i + j)))
walked s o owner i w r e t =
    let long : w.offset + w.size - w.offset ≡ w.size = omega arith in
    rw e at (rw long at t)

pub loop-i-init : goal.loop-i-init
loop-i-init c = (omega arith, omega arith, (λ j h. absurd (omega arith)), λ k h. absurd (omega arith))

pub cover-requires : goal.cover-requires
cover-requires c =
    let L = c.loop-i in
    let here = c.count-m.ensures.fits.1.0 L.i (omega (arith, c.count-m.ensures.value.0)) in
    let e = ap (λ (w : Entry). w.offset) c.entry-w.ensures.value in
    (omega arith, L.invariant.1, passed_on _ _ _ _ L.invariant.2 (omega (arith, here.1.1)), c.requires)

pub returns-in_default : goal.returns-in_default
returns-in_default c =
    let a = c.args in
    let i = c.loop-i.i in
    record {
      says = λ h.
          refuted (walked a.sheet.now a.owners.now a.owner i c.entry-w.result false c.entry-w.ensures.value c.in_default.ensures.tells) refl
          (h i (omega (arith, c.count-m.ensures.value.0)));
    }

pub loop-i-preserved : goal.loop-i-preserved
loop-i-preserved c =
    let a = c.args in
    let L = c.loop-i in
    let w = c.entry-w.result in
    let e = c.entry-w.ensures.value in
    let next = c.in-Some.ensures in
    let passed = rw e at next.at_bound.1 in (
      omega arith,
      next.at_bound.0,
      rw add-one passed,
      below_more _ _ L.invariant.3 (granted (walked a.sheet.now a.owners.now a.owner L.i w true e next.tells) refl),
    )

pub returns : goal.returns
returns c =
    record { says = λ k h. c.loop-i.invariant.3 k (omega (arith, c.count-m.ensures.value.0)) }
