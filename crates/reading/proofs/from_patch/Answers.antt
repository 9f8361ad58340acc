use Rattle.std.specs.Prelude.{not}
use Rattle.std.proofs.Common.{ap}
use Rattle.facts.specs.Rules.{run}
use native.Mathlib.Omega.{arith}
use Rattle.facts.specs.FactLaws.{yes, no, granted}
use Rattle.reading_rules.specs.Stages.{from_patch}
use Rattle.reading.proofs.from_patch.Goals as goal

pub returns-then-not-patch_fits : goal.returns-then-not-patch_fits
unfolding run from_patch
returns-then-not-patch_fits c = rw (no c.patch_fits.ensures (ap not c.if-not-patch_fits.true)) c.refused.ensures

pub le32-requires : goal.le32-requires
le32-requires c = let fits = granted c.patch_fits.ensures (ap not c.if-not-patch_fits.false) in omega arith

pub from_region-requires : goal.from_region-requires
from_region-requires c = let fits = granted c.patch_fits.ensures (ap not c.if-not-patch_fits.false) in omega arith

pub returns : goal.returns
unfolding run from_patch
returns c =
    rw (yes c.patch_fits.ensures (ap not c.if-not-patch_fits.false), ← c.le32.ensures.is) c.from_region.ensures
