use Rattle.std.proofs.Common.{◌≡◌, ◌-◌}
use Rattle.digest_schedule.specs.Schedule.{expanded}
use Rattle.digest_schedule.proofs.expand.Given as goal

abbrev pub invariant-loop-t : goal.invariant-loop-t
invariant-loop-t l = l.w ≡ expanded l.initial.w (l.t - 16)
