use Rattle.fold_runs.proofs.find.Goals as goal

pub returns-then-holds : goal.returns-then-holds
returns-then-holds c = c.holds.ensures c.if-holds.true

pub returns-then-holds-2 : goal.returns-then-holds-2
returns-then-holds-2 c = c.holds-2.ensures c.if-holds-2.true
