use Rattle.std.specs.Prelude.{not}
use Rattle.std.proofs.Common.{ap}
use Rattle.facts.specs.FactLaws.{granted, refuted}
use mathlib.Core.Logic.{inl, inr}
use native.Mathlib.Omega.{arith}
use Rattle.header.proofs.reaches_far.Goals as goal

pub returns-then-not-has_extended : goal.returns-then-not-has_extended
returns-then-not-has_extended c = record { says = inl (refuted c.has_extended.ensures (ap not c.if-not-has_extended.true)) }

pub returns-then-L-lt80 : goal.returns-then-L-lt80
returns-then-L-lt80 c =
    record { says = λ h. elim h [ inl none ↦ none (granted c.has_extended.ensures (ap not c.if-not-has_extended.false)) | inr far ↦ omega arith ] }

pub returns : goal.returns
returns c = record { says = inr (omega arith) }
