use Rattle.std.specs.Prelude.{not}
use Rattle.std.proofs.Common.{ap}
use Rattle.release_judge.specs.Judged.{release_rules}
use Rattle.sheet.specs.Sheet.{sheet_fits}
use Rattle.facts.specs.Rules.{run}
use Rattle.facts.specs.FactLaws.{yes, no, granted, passes, fails}
use Rattle.release_judge.proofs.judge.Goals as goal

pub returns-in-None : goal.returns-in-None
unfolding run release_rules
returns-in-None c = rw (fails (sheet_fits c.args.sheet.now) c.in-None.ensures) c.refused.ensures

pub returns-then-not-owners_fit : goal.returns-then-not-owners_fit
unfolding run release_rules
returns-then-not-owners_fit c =
    rw (passes (sheet_fits c.args.sheet.now) c.in-Some.ensures.1, no c.owners_fit.ensures (ap not c.if-not-owners_fit.true)) c.refused-then-not-owners_fit.ensures

pub judge_names-requires : goal.judge_names-requires
judge_names-requires c = (c.requires, (granted c.owners_fit.ensures (ap not c.if-not-owners_fit.false)).0)

pub returns : goal.returns
unfolding run release_rules
returns c =
    rw (passes (sheet_fits c.args.sheet.now) c.in-Some.ensures.1, yes c.owners_fit.ensures (ap not c.if-not-owners_fit.false), ← c.in-Some.ensures.0) c.judge_names.ensures
