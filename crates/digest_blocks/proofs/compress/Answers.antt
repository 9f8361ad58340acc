use Rattle.digest_blocks.specs.Blocks.{compressed}
use Rattle.digest_blocks.proofs.compress.Goals as goal

pub returns : goal.returns
unfolding compressed
returns c = cc
