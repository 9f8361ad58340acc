use Rattle.std.proofs.Common.{◌+◌, ◌-◌, ◌≡◌, length, arith}
use Rattle.hex_text.specs.Hex.{data_line}
use Rattle.hex_text.specs.Sizes.{part_length}
use Rattle.hex_export.specs.PartLaws.{take_part}
use Rattle.hex_export.proofs.put_data.Goals as goal

pub returns : goal.returns
unfolding data_line
returns c =
    let a = c.args in
    let xs = a.bytes.now in
    let long : a.i + part_length (length xs) a.i - a.i ≡ part_length (length xs) a.i = omega arith in
    rw (take_part xs a.i) at (rw (c.part_length-d.ensures, long) at c.put_line.ensures)
