use Rattle.words.specs.LeLaws.{join}
use Rattle.words.proofs.le16.Goals as goal

pub returns : goal.returns
returns c = join {j = 1} {k = 1} c.byte.ensures c.byte-2.ensures
