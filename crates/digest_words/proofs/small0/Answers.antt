use Rattle.digest_words.specs.Functions.{σ₀}
use Rattle.digest_words.proofs.small0.Goals as goal

-- Assumes nothing.
pub returns : goal.returns
unfolding σ₀
returns c = cc
