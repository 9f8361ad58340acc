use Rattle.std.specs.Prelude.{not}
use Rattle.std.proofs.Common.{ap}
use Rattle.facts.specs.Rules.{run}
use Rattle.facts.specs.FactLaws.{yes, no, granted}
use Rattle.reading_rules.specs.Stages.{stages, by_stages}
use Rattle.reading.proofs.read.Goals as goal

pub returns-then-not-length_fits : goal.returns-then-not-length_fits
unfolding run stages
returns-then-not-length_fits c = rw (by_stages, no c.length_fits.ensures (ap not c.if-not-length_fits.true)) c.refused.ensures

pub from_volume-requires : goal.from_volume-requires
from_volume-requires c = granted c.length_fits.ensures (ap not c.if-not-length_fits.false)

pub returns : goal.returns
unfolding run stages
returns c = rw (by_stages, yes c.length_fits.ensures (ap not c.if-not-length_fits.false)) c.from_volume.ensures
