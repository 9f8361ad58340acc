use Rattle.digest.specs.DigestLaws.{wrote_eight}
use Rattle.digest.proofs.put_words.Goals as goal

pub returns : goal.returns
returns c = wrote_eight _ c.put_word-b.ensures.0 c.put_word-c.ensures.0 c.put_word-d.ensures.0 c.put_word-e.ensures.0 c.put_word-f.ensures.0 c.put_word-g.ensures.0 c.put_word-h.ensures.0 c.put_word.ensures.0
