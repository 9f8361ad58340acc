use Rattle.std.specs.Prelude.{◌/◌, ◌%◌, [], ◌∷◌, length}
use Rattle.std.proofs.Common.{ap, arith}
use Rattle.text_lines.specs.Text.{digit, decimal}
use Rattle.text_lines.specs.TextLaws.{decimal_last, decimal_more, length_decimal}
use Rattle.text_lines.specs.LineLaws.{wrote_then}
use Rattle.text_lines.proofs.+put_decimal.Goals as goal

pub put_byte-requires : goal.put_byte-requires
put_byte-requires t c = omega (arith, ap length (decimal_last c.args.n (omega arith)))

pub returns-then-n-lt10 : goal.returns-then-n-lt10
returns-then-n-lt10 t c = rw (decimal_last c.args.n (omega arith)) c.put_byte.ensures

pub put_decimal-p-requires : goal.put_decimal-p-requires
put_decimal-p-requires t c = (omega arith, omega (arith, length_decimal c.args.n (omega arith)))

pub put_byte-requires-2 : goal.put_byte-requires-2
put_byte-requires-2 t c = omega (arith, length_decimal c.args.n (omega arith))

pub returns : goal.returns
returns t c =
    let n = c.args.n in
    rw (decimal_more n (omega arith))
    (wrote_then (decimal (n / 10)) (digit (n % 10) ∷ []) c.put_decimal-p.ensures c.put_byte-2.ensures)
