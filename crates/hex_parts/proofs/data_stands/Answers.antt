use Rattle.hex_text.specs.Hex.{data_line}
use Rattle.hex_parts.proofs.data_stands.Goals as goal

pub returns : goal.returns
unfolding data_line
returns c = c.line_stands.ensures
