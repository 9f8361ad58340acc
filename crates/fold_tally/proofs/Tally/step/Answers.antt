use Rattle.fold_tally.specs.TallyLaws.{step_some, step_idle, step_ends}
use native.Mathlib.Omega.{arith}
use Rattle.fold_tally.proofs.Tally.step.Goals as goal

pub overflow_add-result : goal.overflow_add-result
overflow_add-result c = omega (arith, c.requires.run)

pub overflow_add-result-then-c-ne0 : goal.overflow_add-result-then-c-ne0
overflow_add-result-then-c-ne0 c = omega (arith, c.requires.bytes)

pub returns-then-c-ne0 : goal.returns-then-c-ne0
returns-then-c-ne0 c = step_some _ _ c.if-c-ne0.true

pub returns-then-self-eq0 : goal.returns-then-self-eq0
returns-then-self-eq0 c = step_idle _ _ c.if-c-ne0.false c.if-self-eq0.true

pub overflow_add-result-2 : goal.overflow_add-result-2
overflow_add-result-2 c = omega (arith, c.requires.runs)

pub returns : goal.returns
returns c = step_ends _ _ c.if-c-ne0.false c.if-self-eq0.false
