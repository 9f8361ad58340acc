use Rattle.reading_rules.specs.Reading.{accepted}
use Rattle.reading_rules.proofs.accept.Goals as goal

pub returns : goal.returns
unfolding accepted
returns c = cc
