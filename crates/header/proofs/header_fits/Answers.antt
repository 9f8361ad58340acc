use Rattle.std.specs.Prelude.{not}
use Rattle.std.proofs.Common.{ap}
use native.Mathlib.Omega.{arith}
use Rattle.facts.specs.FactLaws.{granted, refuted}
use Rattle.header.proofs.header_fits.Goals as goal

pub returns-then-not-edition_fits : goal.returns-then-not-edition_fits
returns-then-not-edition_fits c = record { says = λ h. refuted c.edition_fits.ensures (ap not c.if-not-edition_fits.true) (rw (c.byte.ensures.is, c.le32-L.ensures.is) h.1.1) }

pub returns : goal.returns
returns c = let one = rw (c.byte.ensures.is, c.le32-L.ensures.is) at (granted c.edition_fits.ensures (ap not c.if-not-edition_fits.false)) in record { says = (omega arith, (omega arith, one)) }
