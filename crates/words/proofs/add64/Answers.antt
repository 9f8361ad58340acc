use Rattle.words.specs.Put.{add}
use Rattle.words.proofs.add64.Goals as goal

pub returns : goal.returns
unfolding add
returns c =
    rw (← c.le64.ensures.is, ← c.sum64-w.ensures) c.put64.ensures
