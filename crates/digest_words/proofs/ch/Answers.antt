use Rattle.std.proofs.Common.{refl}
use Rattle.digest_words.specs.Functions.{Ch}
use Rattle.digest_words.proofs.ch.Goals as goal

-- Assumes nothing.
pub returns : goal.returns
unfolding Ch
returns c = refl
