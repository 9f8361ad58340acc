use Rattle.std.specs.Prelude.{not}
use Rattle.std.proofs.Common.{ap}
use Rattle.facts.specs.Rules.{run}
use native.Mathlib.Omega.{arith}
use Rattle.facts.specs.FactLaws.{yes, no, granted}
use Rattle.reading_rules.specs.Stages.{from_component}
use Rattle.reading.proofs.from_component.Goals as goal

pub returns-then-not-component_fits : goal.returns-then-not-component_fits
unfolding run from_component
returns-then-not-component_fits c =
    rw (← c.component_at.ensures, no c.component_fits.ensures (ap not c.if-not-component_fits.true)) c.refused.ensures

pub returns-then-not-legal : goal.returns-then-not-legal
unfolding run from_component
returns-then-not-legal c =
    rw (
      ← c.component_at.ensures,
      yes c.component_fits.ensures (ap not c.if-not-component_fits.false),
      ← c.le32-base.ensures.is,
      no c.legal.ensures (ap not c.if-not-legal.true),
    ) c.refused-then-not-legal.ensures

pub from_table-requires : goal.from_table-requires
from_table-requires c =
    let fits = granted c.component_fits.ensures (ap not c.if-not-component_fits.false) in
    omega arith

pub returns : goal.returns
unfolding run from_component
returns c =
    rw (
      ← c.component_at.ensures,
      yes c.component_fits.ensures (ap not c.if-not-component_fits.false),
      ← c.le32-base.ensures.is,
      yes c.legal.ensures (ap not c.if-not-legal.false),
    ) c.from_table.ensures
