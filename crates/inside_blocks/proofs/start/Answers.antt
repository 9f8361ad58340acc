use Rattle.inside_blocks.specs.BlocksWalk.{start_of}
use Rattle.inside_blocks.proofs.start.Goals as goal

pub returns : goal.returns
unfolding start_of
returns c = rw (← c.head_count.ensures)
