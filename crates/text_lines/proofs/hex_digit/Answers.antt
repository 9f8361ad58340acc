use native.Mathlib.Omega.{arith}
use Rattle.facts.specs.Fact.{◌≤?◌}
use Rattle.facts.specs.FactLaws.{passes, fails}
use Rattle.text_lines.specs.Text.{hex_digit}
use Rattle.text_lines.proofs.hex_digit.Goals as goal

pub returns-then-d-lt10 : goal.returns-then-d-lt10
unfolding hex_digit
returns-then-d-lt10 c = rw (passes (c.args.d ≤? 9) (omega arith))

pub returns : goal.returns
unfolding hex_digit
returns c = rw (fails (c.args.d ≤? 9) (λ h. omega arith))
