use Rattle.digest_rounds.specs.Rounds.{turned}
use Rattle.digest_rounds.proofs.turn.Goals as goal

pub returns : goal.returns
unfolding turned
returns c = cc
