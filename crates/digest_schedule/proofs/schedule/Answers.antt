use Rattle.digest_schedule.specs.Schedule.{scheduled}
use Rattle.digest_schedule.proofs.schedule.Goals as goal

pub returns : goal.returns
unfolding scheduled
returns c = cc
