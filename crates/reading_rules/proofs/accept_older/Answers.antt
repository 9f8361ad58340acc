use Rattle.reading_rules.specs.Reading.{older_accepted}
use Rattle.reading_rules.proofs.accept_older.Goals as goal

pub returns : goal.returns
unfolding older_accepted
returns c = cc
