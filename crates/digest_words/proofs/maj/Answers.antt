use Rattle.std.proofs.Common.{refl}
use Rattle.digest_words.specs.Functions.{Maj}
use Rattle.digest_words.proofs.maj.Goals as goal

-- Assumes nothing.
pub returns : goal.returns
unfolding Maj
returns c = refl
