use Rattle.reading_rules.specs.Reading.{identity_at}
use Rattle.reading_rules.proofs.identity_at.Goals as goal

pub returns : goal.returns
unfolding identity_at
returns c = cc
