use Rattle.std.specs.Prelude.{not}
use Rattle.std.proofs.Common.{ap}
use Rattle.facts.specs.Rules.{run}
use native.Mathlib.Omega.{arith}
use Rattle.facts.specs.Fact.{◌≡?◌}
use Rattle.facts.specs.FactLaws.{passes, fails, yes, no, granted}
use Rattle.reading_rules.specs.Stages.{from_extension}
use Rattle.reading.proofs.from_extension.Goals as goal

pub returns-then-x-eq0 : goal.returns-then-x-eq0
unfolding run from_extension
returns-then-x-eq0 c = rw (passes (c.args.x ≡? 0) c.if-x-eq0.true, ← c.round_8.ensures) c.from_file.ensures

pub returns-then-not-extension_fits : goal.returns-then-not-extension_fits
unfolding run from_extension
returns-then-not-extension_fits c =
    rw (fails (c.args.x ≡? 0) c.if-x-eq0.false, no c.extension_fits.ensures (ap not c.if-not-extension_fits.true)) c.refused.ensures

pub le32-e-requires : goal.le32-e-requires
le32-e-requires c = let fits = granted c.extension_fits.ensures (ap not c.if-not-extension_fits.false) in omega arith

pub round_8-requires-2 : goal.round_8-requires-2
round_8-requires-2 c = let fits = granted c.extension_fits.ensures (ap not c.if-not-extension_fits.false) in omega arith

pub from_file-requires-2 : goal.from_file-requires-2
from_file-requires-2 c = let fits = granted c.extension_fits.ensures (ap not c.if-not-extension_fits.false) in omega arith

pub returns : goal.returns
unfolding run from_extension
returns c =
    rw (
      fails (c.args.x ≡? 0) c.if-x-eq0.false,
      yes c.extension_fits.ensures (ap not c.if-not-extension_fits.false),
      ← c.le32-e.ensures.is,
      ← c.round_8-2.ensures,
    ) c.from_file-2.ensures
