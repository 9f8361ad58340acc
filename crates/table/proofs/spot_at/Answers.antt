use Rattle.table.specs.Passes.{place}
use Rattle.table.proofs.spot_at.Goals as goal

pub spot-requires : goal.spot-requires
unfolding place
spot-requires c = rw c.le32.ensures.is c.requires.1

pub returns : goal.returns
unfolding place
returns c = rw (← c.le32.ensures.is) c.spot.ensures
