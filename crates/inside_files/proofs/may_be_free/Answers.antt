use mathlib.Core.Logic.{inl, inr}
use native.Mathlib.Omega.{arith}
use Rattle.inside_files.proofs.may_be_free.Goals as goal

pub returns-then-v-f : goal.returns-then-v-f
returns-then-v-f c = record { says = inl (omega arith) }

pub returns-then-image-f : goal.returns-then-image-f
returns-then-image-f c = record { says = inr c.if-image-f.true }

pub returns : goal.returns
returns c = record { says = λ h. elim h [ inl a ↦ absurd (omega arith) | inr b ↦ c.if-image-f.false b ] }
