use Rattle.words.specs.LeLaws.{join}
use Rattle.words.proofs.le24.Goals as goal

pub returns : goal.returns
returns c = join {j = 2} {k = 1} c.le16.ensures c.byte.ensures
