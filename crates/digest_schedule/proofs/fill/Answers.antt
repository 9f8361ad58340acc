use Rattle.std.proofs.Common.{sym}
use Rattle.digest_schedule.specs.ScheduleLaws.{loaded_none, loaded_turn}
use Rattle.digest_schedule.proofs.fill.Goals as goal

pub loop-t-init : goal.loop-t-init
loop-t-init c = sym (loaded_none _ _ _)

pub loop-t-preserved : goal.loop-t-preserved
loop-t-preserved c = loaded_turn _ _ _ _ _ _ c.loop-t.invariant c.load.ensures
