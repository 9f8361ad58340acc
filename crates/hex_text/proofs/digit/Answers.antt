use native.Mathlib.Decide.{dec_le}
use native.Mathlib.Omega.{arith}
use Rattle.facts.specs.Fact.{◌≤?◌}
use Rattle.facts.specs.FactLaws.{passes, fails}
use Rattle.text_lines.specs.Text.{hex_digit}
use Rattle.hex_text.proofs.digit.Goals as goal

pub returns : goal.returns
unfolding hex_digit
returns c =
    let d = c.args.d in
    elim (dec_le d 9) [ yes h ↦ rw (passes (d ≤? 9) h) (omega arith) | no h ↦ rw (fails (d ≤? 9) h) (omega arith) ]
