use Rattle.words.specs.LeLaws.{join}
use Rattle.words.proofs.le32.Goals as goal

pub returns : goal.returns
returns c = join {j = 2} {k = 2} c.le16.ensures c.le16-2.ensures
