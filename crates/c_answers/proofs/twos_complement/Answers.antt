use Rattle.c_answers.specs.AnswerLaws.{twos_below, twos_above}
use mir.Facts.{to_z-of_z}
use lib.IntN.{pos, nat_abs}
use lib.Signed.{lt_z}
use mathlib.Core.Bool.{true, false}
use mathlib.Core.Path.{◌≡◌, sym, ◌∙◌}
use native.Mathlib.Omega.{arith}
use Rattle.c_answers.proofs.twos_complement.Goals as goal

size : (c : goal.Then-x-lt0) → c.magnitude-m.result ≡ nat_abs c.args.x
size c = rw (to_z-of_z c.ranges.x) at c.magnitude-m.ensures

size-at-2 : (c : goal.Else-x-lt0) → c.magnitude-m.result ≡ nat_abs c.args.x
size-at-2 c = rw (to_z-of_z c.ranges.x) at c.magnitude-m.ensures

below : (c : goal.Then-x-lt0) → lt_z c.args.x (pos 0) ≡ true
below c = rw (to_z-of_z c.ranges.x) at c.if-x-lt0.true

above : (c : goal.Else-x-lt0) → lt_z c.args.x (pos 0) ≡ false
above c = rw (to_z-of_z c.ranges.x) at c.if-x-lt0.false

pub overflow_sub-result : goal.overflow_sub-result
overflow_sub-result c = omega (arith, (twos_below c.args.x (below c)).0, size c)

pub returns-then-x-lt0 : goal.returns-then-x-lt0
returns-then-x-lt0 c = rw ((twos_below c.args.x (below c)).1, size c)

pub returns : goal.returns
returns c = size-at-2 c ∙ sym (twos_above c.args.x (above c))
