use Rattle.hex_text.specs.Hex.{upper_line}
use Rattle.hex_export.proofs.put_upper.Goals as goal

pub returns : goal.returns
unfolding upper_line
returns c = c.put_line.ensures
