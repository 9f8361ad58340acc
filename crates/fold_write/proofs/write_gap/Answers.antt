use Rattle.fold_tally.specs.TallyLaws.{small_up}
use mathlib.Core.Path.{refl}
use native.Mathlib.Omega.{arith}
use Rattle.fold_write.proofs.write_gap.Goals as goal

pub returns-then-base-at : goal.returns-then-base-at
returns-then-base-at c =
    record { more = λ h. absurd (omega arith); count = λ h. absurd (omega arith); same = λ h. refl; still = λ h. refl }

pub place-requires : goal.place-requires
place-requires c = c.requires.0 c.if-base-at.false

pub step-requires : goal.step-requires
step-requires c = small_up c.requires.1 1099511758848 (omega arith)

pub returns : goal.returns
returns c =
    record { more = λ h. c.place.ensures; count = λ h. c.step.ensures; same = λ h. absurd (omega arith); still = λ h. absurd (omega arith) }
