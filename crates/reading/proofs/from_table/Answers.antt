use Rattle.std.specs.Prelude.{not}
use Rattle.std.proofs.Common.{ap}
use Rattle.facts.specs.Rules.{run}
use native.Mathlib.Omega.{arith}
use Rattle.facts.specs.FactLaws.{yes, no, granted}
use Rattle.reading_rules.specs.Stages.{from_table}
use Rattle.reading.proofs.from_table.Goals as goal

pub returns-then-not-is_extended : goal.returns-then-not-is_extended
unfolding run from_table
returns-then-not-is_extended c = rw (no c.is_extended.ensures (ap not c.if-not-is_extended.true)) c.from_patch.ensures

pub returns-then-not-extended_fits : goal.returns-then-not-extended_fits
unfolding run from_table
returns-then-not-extended_fits c =
    rw (yes c.is_extended.ensures (ap not c.if-not-is_extended.false), no c.extended_fits.ensures (ap not c.if-not-extended_fits.true)) c.refused.ensures

pub le32-k-requires : goal.le32-k-requires
le32-k-requires c = let fits = granted c.extended_fits.ensures (ap not c.if-not-extended_fits.false) in omega arith

pub round_4-requires : goal.round_4-requires
round_4-requires c = let fits = granted c.extended_fits.ensures (ap not c.if-not-extended_fits.false) in omega arith

pub from_patch-requires-2 : goal.from_patch-requires-2
from_patch-requires-2 c = let fits = granted c.extended_fits.ensures (ap not c.if-not-extended_fits.false) in omega arith

pub returns : goal.returns
unfolding run from_table
returns c =
    rw (
      yes c.is_extended.ensures (ap not c.if-not-is_extended.false),
      yes c.extended_fits.ensures (ap not c.if-not-extended_fits.false),
      ← c.le32-k.ensures.is,
      ← c.round_4.ensures,
    ) c.from_patch-2.ensures
