use mathlib.Core.List.{◌++◌}
use native.Mathlib.Omega.{arith}
use Rattle.text_lines.specs.Text.{ascii, decimal}
use Rattle.text_lines.specs.LineLaws.{wrote_then}
use Rattle.text_lines.proofs.put_number.Goals as goal

-- Assumes nothing.
pub put_text-p-requires : goal.put_text-p-requires
put_text-p-requires c = omega arith

pub put_decimal-q-requires : goal.put_decimal-q-requires
put_decimal-q-requires c = omega arith

pub put_byte-requires : goal.put_byte-requires
put_byte-requires c = omega arith

pub returns : goal.returns
returns c =
    let n = c.args.n in record {
      wrote = wrote_then c.args.word.now (decimal n ++ ascii "\n") c.put_text-p.ensures
          (wrote_then (decimal n) (ascii "\n") c.put_decimal-q.ensures c.put_byte.ensures);
      value = omega (arith, c.before.before.before.before.before.before);
    }
