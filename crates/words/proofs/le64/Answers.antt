use Rattle.words.specs.LeLaws.{join}
use Rattle.words.proofs.le64.Goals as goal

pub returns : goal.returns
returns c = join {j = 4} {k = 4} c.le32.ensures c.le32-2.ensures
