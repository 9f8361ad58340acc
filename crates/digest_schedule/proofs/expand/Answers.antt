use Rattle.std.proofs.Common.{sym}
use Rattle.digest_schedule.specs.ScheduleLaws.{expanded_none, expanded_at}
use Rattle.digest_schedule.proofs.expand.Goals as goal

pub loop-t-init : goal.loop-t-init
loop-t-init c = sym (expanded_none _)

pub loop-t-preserved : goal.loop-t-preserved
loop-t-preserved c = expanded_at _ _ _ _ c.loop-t.auto.t c.loop-t.invariant c.grow.ensures
