use Rattle.std.specs.Prelude.{not}
use Rattle.std.proofs.Common.{ap}
use Rattle.facts.specs.Rules.{run}
use native.Mathlib.Omega.{arith}
use Rattle.facts.specs.FactLaws.{yes, no, granted}
use Rattle.reading_rules.specs.Stages.{from_region}
use Rattle.reading_entries.proofs.from_region.Goals as goal

pub returns-then-not-region_fits : goal.returns-then-not-region_fits
unfolding run from_region
returns-then-not-region_fits c =
    rw (
      ← c.le32-c.ensures.is,
      ← c.le32-z.ensures.is,
      no c.region_fits.ensures (ap not c.if-not-region_fits.true),
    ) c.refused.ensures

pub marks_fit-requires : goal.marks_fit-requires
marks_fit-requires c =
    let fits = granted c.region_fits.ensures (ap not c.if-not-region_fits.false) in
    omega arith

pub returns-then-not-marks_fit : goal.returns-then-not-marks_fit
unfolding run from_region
returns-then-not-marks_fit c =
    rw (
      ← c.le32-c.ensures.is,
      ← c.le32-z.ensures.is,
      yes c.region_fits.ensures (ap not c.if-not-region_fits.false),
      ← c.component_at.ensures,
      no c.marks_fit.ensures (ap not c.if-not-marks_fit.true),
    ) c.refused-then-not-marks_fit.ensures

pub from_entries-requires : goal.from_entries-requires
from_entries-requires c =
    let fits = granted c.region_fits.ensures (ap not c.if-not-region_fits.false) in
    omega arith

pub returns : goal.returns
unfolding run from_region
returns c =
    rw (
      ← c.le32-c.ensures.is,
      ← c.le32-z.ensures.is,
      yes c.region_fits.ensures (ap not c.if-not-region_fits.false),
      ← c.component_at.ensures,
      yes c.marks_fit.ensures (ap not c.if-not-marks_fit.false),
    ) c.from_entries.ensures
