use Rattle.std.specs.Prelude.{not}
use Rattle.std.proofs.Common.{ap}
use Rattle.table.specs.Entry.{place_of}
use Rattle.facts.specs.Fact.{◌≤?◌}
use Rattle.facts.specs.FactLaws.{passes, fails, yes, no}
use Prim.Native.Nat.{◌-◌, ◌%◌, ◌^◌}
use borrow.Author.Tests.{eq-eqb, ne_eqb}
use mathlib.Core.Logic.{inl, inr}
use native.Mathlib.Omega.{arith}
use Rattle.table.proofs.point.Goals as goal

pub returns-then-not-type_fits : goal.returns-then-not-type_fits
unfolding place_of
returns-then-not-type_fits c = rw (no c.type_fits.ensures (ap not c.if-not-type_fits.true)) c.refused_place.ensures

pub returns-then-not-reserved_fits : goal.returns-then-not-reserved_fits
unfolding place_of
returns-then-not-reserved_fits c =
    rw (yes c.type_fits.ensures (ap not c.if-not-type_fits.false), no c.reserved_fits.ensures (ap not c.if-not-reserved_fits.true)) c.refused_place-then-not-reserved_fits.ensures

pub returns-in_default : goal.returns-in_default
unfolding place_of
returns-in_default c =
    let a = c.args in
    let out = c.in_default.ensures in
    rw (
      yes c.type_fits.ensures (ap not c.if-not-type_fits.false),
      yes c.reserved_fits.ensures (ap not c.if-not-reserved_fits.false),
      ne_eqb _ _ out.0,
      fails (2 ^ 24 - a.entry % 2 ^ 24 ≤? a.size) (λ h. omega arith),
    ) c.refused_place-in_default.ensures

pub returns : goal.returns
unfolding place_of
returns c =
    let a = c.args in
    rw (
      yes c.type_fits.ensures (ap not c.if-not-type_fits.false),
      yes c.reserved_fits.ensures (ap not c.if-not-reserved_fits.false),
    ) (elim c.in-Some.ensures [
      | inl up ↦ rw (eq-eqb _ _ up.0, ← up.1) c.fit.ensures
      | inr back ↦ rw (ne_eqb _ _ back.0, passes (2 ^ 24 - a.entry % 2 ^ 24 ≤? a.size) back.1, ← back.2) c.fit.ensures
    ])
