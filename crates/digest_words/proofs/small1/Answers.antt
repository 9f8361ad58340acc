use Rattle.digest_words.specs.Functions.{σ₁}
use Rattle.digest_words.proofs.small1.Goals as goal

-- Assumes nothing.
pub returns : goal.returns
unfolding σ₁
returns c = cc
