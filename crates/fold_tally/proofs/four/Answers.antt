use Rattle.fold_tally.specs.TallyLaws.{blank_four}
use Rattle.fold_tally.proofs.four.Goals as goal

pub returns : goal.returns
returns c = let a = c.args in blank_four a.cells.now a.i
