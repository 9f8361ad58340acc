use Rattle.inside_walk.specs.Entries.{past_of}
use Rattle.inside_walk.proofs.past.Goals as goal

pub returns : goal.returns
unfolding past_of
returns c = rw (← c.requires.0)
