use Rattle.fold_sheet.specs.Placing.{put_header}
use Rattle.fold_sheet.proofs.put_header.Goals as goal

pub returns : goal.returns
unfolding put_header
returns c =
    rw (c.put16-2.ensures, c.put16.ensures, c.put32.ensures, c.put64.ensures)
