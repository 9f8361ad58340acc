use Rattle.digest_words.specs.Functions.{Σ₁}
use Rattle.digest_words.proofs.big1.Goals as goal

-- Assumes nothing.
pub returns : goal.returns
unfolding Σ₁
returns c = cc
