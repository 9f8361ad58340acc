use Rattle.std.proofs.Common.{sym}
use Rattle.digest_blocks.specs.BlocksLaws.{chained_none, chained_turn}
use Rattle.digest_blocks.proofs.chain.Goals as goal

pub loop-i-init : goal.loop-i-init
loop-i-init c = sym (chained_none _ _)

pub loop-i-preserved : goal.loop-i-preserved
loop-i-preserved c = chained_turn _ _ _ _ _ c.loop-i.invariant c.compress-x.ensures
