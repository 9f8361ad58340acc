use Rattle.digest_words.specs.Functions.{Σ₀}
use Rattle.digest_words.proofs.big0.Goals as goal

-- Assumes nothing.
pub returns : goal.returns
unfolding Σ₀
returns c = cc
