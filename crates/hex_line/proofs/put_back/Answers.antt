use mathlib.Core.List.{[], ◌∷◌}
use Rattle.text_lines.specs.LineLaws.{wrote_then, wrote_byte}
use Rattle.hex_line.proofs.put_back.Goals as goal

pub returns : goal.returns
returns c = wrote_then _ (10 ∷ []) c.put_pair-p.ensures (wrote_byte _ _ 10)
