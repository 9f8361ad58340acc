use Rattle.fold_tally.specs.TallyLaws.{small_up}
use mathlib.Core.Path.{refl}
use native.Mathlib.Omega.{arith}
use Rattle.fold_tally.proofs.pass.Goals as goal

pub step-requires : goal.step-requires
step-requires c = small_up c.requires 1099511758848 (omega arith)

pub returns-then-at-base : goal.returns-then-at-base
returns-then-at-base c = ((λ h. c.step.ensures), λ h. absurd (omega arith))

pub returns : goal.returns
returns c = ((λ h. absurd (omega arith)), λ h. refl)
