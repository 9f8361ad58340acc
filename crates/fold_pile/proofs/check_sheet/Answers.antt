use Rattle.std.specs.Prelude.{not}
use Rattle.std.proofs.Common.{ap}
use Rattle.sheet.specs.Sheet.{sheet_fits}
use Rattle.fold_pile.specs.Pile.{sheet_number}
use Rattle.facts.specs.Rules.{run}
use Rattle.facts.specs.FactLaws.{yes, no, passes, fails}
use Rattle.fold_pile.proofs.check_sheet.Goals as goal

pub returns-in_default : goal.returns-in_default
unfolding sheet_number run
returns-in_default c = rw (fails (sheet_fits c.args.sheet.now) c.in_default.ensures)

pub returns-then-not-names : goal.returns-then-not-names
unfolding sheet_number run
returns-then-not-names c =
    rw (passes (sheet_fits c.args.sheet.now) c.in-Some.ensures.1, ← c.in-Some.ensures.0, no c.names.ensures (ap not c.if-not-names.true))

pub returns : goal.returns
unfolding sheet_number run
returns c =
    rw (passes (sheet_fits c.args.sheet.now) c.in-Some.ensures.1, ← c.in-Some.ensures.0, yes c.names.ensures (ap not c.if-not-names.false))
