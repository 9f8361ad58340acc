use Rattle.std.proofs.Common.{refl}
use Rattle.facts.specs.Fact.{◌≡?◌}
use Rattle.facts.specs.FactLaws.{passes, fails}
use Rattle.handoff_step.proofs.pass_end.Goals as goal

pub returns-then-n-ne8 : goal.returns-then-n-ne8
returns-then-n-ne8 c = rw (fails (c.args.n ≡? 8) c.if-n-ne8.true) refl

pub returns : goal.returns
returns c = rw (passes (c.args.n ≡? 8) c.if-n-ne8.false) refl
