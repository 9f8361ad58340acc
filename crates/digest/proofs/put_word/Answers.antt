use Rattle.std.proofs.Common.{refl, ◌∙◌}
use Rattle.digest.specs.DigestLaws.{wrote_word}
use Rattle.digest.proofs.put_word.Goals as goal

pub returns : goal.returns
returns c = (wrote_word _ _ _ _ c.requires (c.copy_from_slice.ensures.after ∙ c.to_be_bytes.ensures), refl)
