use Rattle.std.specs.Prelude.{not}
use Rattle.std.proofs.Common.{ap}
use Rattle.facts.specs.FactLaws.{granted, refuted}
use native.Mathlib.Omega.{arith}
use Rattle.owners.proofs.range_fits.Goals as goal

pub returns-then-not-known_owner : goal.returns-then-not-known_owner
returns-then-not-known_owner c = record { says = λ h. refuted c.known_owner.ensures (ap not c.if-not-known_owner.true) h.1.1.1 }

pub returns : goal.returns
returns c = record { says = (omega arith, (omega arith, (omega arith, granted c.known_owner.ensures (ap not c.if-not-known_owner.false)))) }
