use Rattle.digest_rounds.specs.Rounds.{T₂}
use Rattle.digest_rounds.proofs.second.Goals as goal

pub returns : goal.returns
unfolding T₂
returns c = cc
