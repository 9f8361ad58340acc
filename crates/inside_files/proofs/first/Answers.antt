use Rattle.inside_files.specs.Parts.{first_place}
use Rattle.inside_files.proofs.first.Goals as goal

pub returns : goal.returns
unfolding first_place
returns c = rw (← c.le24.ensures.is, ← c.first_at-at.ensures)
