use Rattle.table.specs.Passes.{place}
use Rattle.table.proofs.point_at.Goals as goal

pub returns : goal.returns
unfolding place
returns c = rw (← c.le32.ensures.is) c.point.ensures
