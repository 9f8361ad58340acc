use native.Mathlib.Omega.{arith}
use Rattle.text_lines.specs.LineLaws.{wrote_length}
use Rattle.hex_text.specs.Hex.{end_line}
use Rattle.hex_export.specs.PartLaws.{end_room, text_over}
use Rattle.hex_export.proofs.put_text.Goals as goal

pub put_line-requires : goal.put_line-requires
put_line-requires c =
    let r = c.requires in
    let w = c.put_parts-at.ensures in
    let e = wrote_length w in
    let f = end_room r w in
    (omega arith, omega arith, omega arith)

pub returns : goal.returns
unfolding end_line
returns c = text_over c.requires
    c.put_parts-at.ensures c.put_line.ensures
