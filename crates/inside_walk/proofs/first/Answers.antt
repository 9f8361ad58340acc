use Rattle.inside_walk.specs.WholeWalk.{first_spot}
use Rattle.inside_walk.proofs.first.Goals as goal

pub returns : goal.returns
unfolding first_spot
returns c = rw (← c.first-place.ensures, c.start.ensures, c.none-m.ensures)
