use Rattle.std.specs.Prelude.{not}
use Rattle.std.proofs.Common.{ap}
use Rattle.facts.specs.Rules.{run}
use native.Mathlib.Omega.{arith}
use Rattle.facts.specs.FactLaws.{yes, no, granted}
use Rattle.reading_rules.specs.Stages.{from_volume}
use Rattle.reading.proofs.from_volume.Goals as goal

pub returns-then-not-volume_fits : goal.returns-then-not-volume_fits
unfolding run from_volume
returns-then-not-volume_fits c =
    rw (
      ← c.le16-h.ensures.is,
      ← c.le64-v.ensures.is,
      ← c.le16-x.ensures.is,
      no c.volume_fits.ensures (ap not c.if-not-volume_fits.true),
    ) c.refused.ensures

pub from_extension-requires : goal.from_extension-requires
from_extension-requires c = let fits = granted c.volume_fits.ensures (ap not c.if-not-volume_fits.false) in omega arith

pub returns : goal.returns
unfolding run from_volume
returns c =
    rw (
      ← c.le16-h.ensures.is,
      ← c.le64-v.ensures.is,
      ← c.le16-x.ensures.is,
      yes c.volume_fits.ensures (ap not c.if-not-volume_fits.false),
    ) c.from_extension.ensures
