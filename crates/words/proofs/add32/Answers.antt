use Rattle.words.specs.Put.{add}
use Rattle.words.proofs.add32.Goals as goal

pub returns : goal.returns
unfolding add
returns c =
    rw (← c.le32.ensures.is, ← c.sum32-w.ensures) c.put32.ensures
