use native.Mathlib.Omega.{arith}
use Rattle.text_answer.specs.Places.{setting_line, stray_line}
use Rattle.text_answer.proofs.put_place.Goals as goal

pub returns-then-v-lt16777216 : goal.returns-then-v-lt16777216
returns-then-v-lt16777216 c = record { wrote = rw (setting_line c.args.v (omega arith)) c.put_short_line.ensures.wrote; upper_bound = omega arith }

pub returns : goal.returns
returns c = record { wrote = rw (stray_line c.args.v (omega arith)) c.put_short_line-2.ensures.wrote; upper_bound = omega arith }
