use native.Mathlib.Omega.{arith}
use Rattle.text_answer.specs.Told.{verdict}
use Rattle.text_answer.proofs.put_verdict.Goals as goal

pub returns-then-explained : goal.returns-then-explained
unfolding verdict
returns-then-explained c = record { wrote = rw c.if-explained.true c.put_text.ensures; upper_bound = omega arith }

pub returns : goal.returns
unfolding verdict
returns c = record { wrote = rw c.if-explained.false c.put_text-2.ensures; upper_bound = omega arith }
