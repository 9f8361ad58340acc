use Rattle.std.specs.Prelude.{◌-◌, ◌/◌, ◌%◌, [], ◌∷◌}
use Rattle.std.proofs.Common.{arith}
use Rattle.text_lines.specs.Text.{hex_digit, hex_digits}
use Rattle.text_lines.specs.TextLaws.{hex_none, hex_more, length_hex}
use Rattle.text_lines.specs.LineLaws.{wrote_none, wrote_then}
use Rattle.text_lines.proofs.+put_hex.Goals as goal

pub returns-then-k-eq0 : goal.returns-then-k-eq0
returns-then-k-eq0 t c =
    let a = c.args in
    rw (hex_none a.k a.n c.if-k-eq0.true) (wrote_none a.out.now a.at)

pub put_byte-requires : goal.put_byte-requires
put_byte-requires t c = omega (arith, length_hex (c.args.k - 1) (c.args.n / 16))

pub returns : goal.returns
returns t c =
    let a = c.args in
    rw (hex_more a.k a.n (omega arith))
    (wrote_then (hex_digits (a.k - 1) (a.n / 16)) (hex_digit (a.n % 16) ∷ []) c.put_hex-p.ensures (rw c.hex_digit.ensures at c.put_byte.ensures))
