use Rattle.std.specs.Prelude.{not}
use Rattle.std.proofs.Common.{ap}
use Rattle.facts.specs.Rules.{run}
use Rattle.facts.specs.FactLaws.{yes, no}
use Rattle.reading_rules.specs.Stages.{from_older}
use Rattle.reading.proofs.from_older.Goals as goal

pub returns-then-not-legal : goal.returns-then-not-legal
unfolding run from_older
returns-then-not-legal c = rw (← c.le32-base.ensures.is, no c.legal.ensures (ap not c.if-not-legal.true)) c.refused.ensures

pub returns : goal.returns
unfolding run from_older
returns c = rw (← c.le32-base.ensures.is, yes c.legal.ensures (ap not c.if-not-legal.false)) c.accept_older.ensures
