use Rattle.std.specs.Prelude.{not}
use Rattle.std.proofs.Common.{ap}
use native.Mathlib.Omega.{arith}
use Rattle.facts.specs.FactLaws.{granted, refuted}
use Rattle.header.proofs.later_fits.Goals as goal

pub returns-then-not-reaches_far : goal.returns-then-not-reaches_far
returns-then-not-reaches_far c = record { says = λ h. refuted c.reaches_far.ensures (ap not c.if-not-reaches_far.true) h.1.1.1 }

pub returns : goal.returns
returns c = record { says = (omega arith, (omega arith, (omega arith, granted c.reaches_far.ensures (ap not c.if-not-reaches_far.false)))) }
