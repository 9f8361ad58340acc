use Rattle.std.specs.Prelude.{not}
use Rattle.std.proofs.Common.{ap}
use Prim.Native.Nat.{◌-◌}
use Rattle.facts.specs.Rules.{run}
use Rattle.facts.specs.FactLaws.{yes, no, granted}
use Rattle.reading_rules.specs.Stages.{from_header}
use Rattle.reading.proofs.from_header.Goals as goal

pub returns-then-not-header_fits : goal.returns-then-not-header_fits
unfolding run from_header
returns-then-not-header_fits c = rw (no c.header_fits.ensures (ap not c.if-not-header_fits.true)) c.refused.ensures

pub returns-then-not-size_fits : goal.returns-then-not-size_fits
unfolding run from_header
returns-then-not-size_fits c =
    rw (yes c.header_fits.ensures (ap not c.if-not-header_fits.false), no c.size_fits.ensures (ap not c.if-not-size_fits.true)) c.refused-then-not-size_fits.ensures

pub from_edition-requires : goal.from_edition-requires
from_edition-requires c =
    let fits = granted c.header_fits.ensures (ap not c.if-not-header_fits.false) in
    (c.requires.0, fits, c.requires.1, c.requires.2, c.requires.3)

pub returns : goal.returns
unfolding run from_header
returns c =
    rw (yes c.header_fits.ensures (ap not c.if-not-header_fits.false), yes c.size_fits.ensures (ap not c.if-not-size_fits.false)) c.from_edition.ensures
