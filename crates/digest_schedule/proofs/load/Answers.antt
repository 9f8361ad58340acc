use Rattle.digest_schedule.specs.Schedule.{word}
use Rattle.digest_schedule.proofs.load.Goals as goal

pub returns : goal.returns
unfolding word
returns c = cc
