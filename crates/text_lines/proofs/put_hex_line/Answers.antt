use mathlib.Core.List.{◌++◌}
use native.Mathlib.Omega.{arith}
use Rattle.text_lines.specs.Text.{ascii, hex_digits}
use Rattle.text_lines.specs.TextLaws.{length_hex}
use Rattle.text_lines.specs.LineLaws.{wrote_then}
use Rattle.text_lines.proofs.put_hex_line.Goals as goal

-- Assumes nothing.
pub put_text-p-requires : goal.put_text-p-requires
put_text-p-requires c = omega arith

pub put_hex-h-requires : goal.put_hex-h-requires
put_hex-h-requires c = omega arith

pub put_byte-requires : goal.put_byte-requires
put_byte-requires c = omega (arith, length_hex 8 c.args.n)

pub returns : goal.returns
returns c =
    let n = c.args.n in record {
      wrote = wrote_then c.args.word.now (hex_digits 8 n ++ ascii "\n") c.put_text-p.ensures
          (wrote_then (hex_digits 8 n) (ascii "\n") c.put_hex-h.ensures c.put_byte.ensures);
      value = omega (arith, c.before.before.before.before.before.before, length_hex 8 n);
    }
