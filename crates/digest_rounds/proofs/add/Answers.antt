use Rattle.digest_rounds.specs.Rounds.{plus}
use Rattle.digest_rounds.proofs.add.Goals as goal

pub returns : goal.returns
unfolding plus
returns c = cc
