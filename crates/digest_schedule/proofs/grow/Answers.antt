use Rattle.digest_schedule.specs.Schedule.{next}
use Rattle.digest_schedule.proofs.grow.Goals as goal

pub returns : goal.returns
unfolding next
returns c = cc
