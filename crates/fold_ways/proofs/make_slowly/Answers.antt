use Rattle.fold.specs.Fold.{folded_sheet}
use Rattle.fold_ways.proofs.make_slowly.Goals as goal

pub returns : goal.returns
unfolding folded_sheet
returns c = c.write_sheet.ensures
