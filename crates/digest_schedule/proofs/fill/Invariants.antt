use Rattle.std.proofs.Common.{◌≡◌}
use Rattle.digest_schedule.specs.Schedule.{loaded}
use Rattle.digest_schedule.proofs.fill.Given as goal

abbrev pub invariant-loop-t : goal.invariant-loop-t
invariant-loop-t l = l.w ≡ loaded l.initial.w l.s l.at l.t
