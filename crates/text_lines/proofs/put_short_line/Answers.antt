use native.Mathlib.Omega.{arith}
use Rattle.text_lines.specs.TextLaws.{decimal_32}
use Rattle.text_lines.proofs.put_short_line.Goals as goal

-- Assumes nothing.
pub put_number-requires : goal.put_number-requires
put_number-requires c = omega (arith, decimal_32 c.args.n (omega (arith, c.ranges.n)))

pub returns : goal.returns
returns c = record { wrote = c.put_number.ensures.wrote; upper_bound = omega (arith, decimal_32 c.args.n (omega (arith, c.ranges.n))) }
