use Rattle.sheet.specs.Sheet.{sheet_fits}
use Rattle.sheet.specs.ReadSheet.{sheet_reading}
use Rattle.facts.specs.Rules.{run}
use Rattle.facts.specs.FactLaws.{passes, fails}
use Rattle.sheet.proofs.read_sheet.Goals as goal

pub returns-in-None : goal.returns-in-None
unfolding sheet_reading run
returns-in-None c = rw (fails (sheet_fits c.args.sheet.now) c.in-None.ensures)

pub returns-in-Some : goal.returns-in-Some
unfolding sheet_reading run
returns-in-Some c =
    rw (passes (sheet_fits c.args.sheet.now) c.in-Some.ensures.1, ← c.in-Some.ensures.0, ← c.count.ensures.value.0, ← c.identity.ensures)
