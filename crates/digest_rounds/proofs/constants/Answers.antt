use Rattle.std.proofs.Common.{refl}
use Rattle.digest_rounds.specs.Rounds.{K}
use Rattle.digest_rounds.proofs.constants.Goals as goal

-- Assumes nothing.
pub returns : goal.returns
unfolding K
returns c = refl
