use Rattle.std.specs.Prelude.{not}
use Rattle.std.proofs.Common.{ap}
use Rattle.facts.specs.FactLaws.{granted, refuted}
use Rattle.sheet.proofs.sheet_fits.Goals as goal

pub returns-then-not-contents_fit : goal.returns-then-not-contents_fit
returns-then-not-contents_fit c = record { says = λ h. refuted c.contents_fit.ensures (ap not c.if-not-contents_fit.true) h.0 }

pub bodies_fit-requires : goal.bodies_fit-requires
bodies_fit-requires c = granted c.contents_fit.ensures (ap not c.if-not-contents_fit.false)

pub returns-then-not-bodies_fit : goal.returns-then-not-bodies_fit
returns-then-not-bodies_fit c = record { says = λ h. refuted c.bodies_fit.ensures (ap not c.if-not-bodies_fit.true) h.1 }

pub returns : goal.returns
returns c =
    record { says = (granted c.contents_fit.ensures (ap not c.if-not-contents_fit.false), granted c.bodies_fit.ensures (ap not c.if-not-bodies_fit.false)) }
