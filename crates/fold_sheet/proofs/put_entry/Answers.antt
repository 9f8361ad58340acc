use Rattle.fold_sheet.specs.Placing.{put_entry}
use Rattle.fold_sheet.proofs.put_entry.Goals as goal

pub returns : goal.returns
unfolding put_entry
returns c =
    rw (c.put16-2.ensures, c.put16.ensures, c.put32.ensures)
