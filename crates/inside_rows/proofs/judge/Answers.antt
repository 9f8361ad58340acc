use Rattle.std.specs.Prelude.{not}
use Rattle.std.proofs.Common.{ap}
use Rattle.inside_rows.specs.Rows.{rows_fit, judged}
use Rattle.facts.specs.FactLaws.{passes, fails, granted, refuted}
use Rattle.inside_rows.proofs.judge.Goals as goal

pub returns-then-not-rows_fit : goal.returns-then-not-rows_fit
unfolding judged
returns-then-not-rows_fit c =
    let a = c.args in
    rw (fails (rows_fit a.image.now a.m) (refuted c.rows_fit.ensures (ap not c.if-not-rows_fit.true))) c.refused.ensures

pub returns : goal.returns
unfolding judged
returns c =
    let a = c.args in
    rw (passes (rows_fit a.image.now a.m) (granted c.rows_fit.ensures (ap not c.if-not-rows_fit.false)))
