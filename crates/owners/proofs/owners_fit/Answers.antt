use Rattle.std.specs.Prelude.{not}
use Rattle.std.proofs.Common.{ap}
use Rattle.facts.specs.FactLaws.{granted, refuted}
use Rattle.owners.proofs.owners_fit.Goals as goal

pub returns-then-not-list_fits : goal.returns-then-not-list_fits
returns-then-not-list_fits c = record { says = λ h. refuted c.list_fits.ensures (ap not c.if-not-list_fits.true) h.0 }

pub returns-then-not-known_owner : goal.returns-then-not-known_owner
returns-then-not-known_owner c = record { says = λ h. refuted c.known_owner.ensures (ap not c.if-not-known_owner.true) h.1 }

pub returns : goal.returns
returns c =
    record { says = (granted c.list_fits.ensures (ap not c.if-not-list_fits.false), granted c.known_owner.ensures (ap not c.if-not-known_owner.false)) }
