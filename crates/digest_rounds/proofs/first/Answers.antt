use Rattle.digest_rounds.specs.Rounds.{T₁}
use Rattle.digest_rounds.proofs.first.Goals as goal

pub returns : goal.returns
unfolding T₁
returns c = cc
