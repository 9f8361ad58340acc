use native.Mathlib.Omega.{arith}
use mathlib.Core.Logic.{inl, inr}
use Rattle.header.specs.HeaderLaws.{retell}
use Rattle.header.proofs.edition_fits.Goals as goal

pub returns-then-revision-eq1 : goal.returns-then-revision-eq1
returns-then-revision-eq1 c = retell c.older_fits.ensures (λ short. inl (omega arith, short)) (λ h. elim h [ inl both ↦ both.1 | inr far ↦ absurd (omega (arith, far.0)) ])

pub returns : goal.returns
returns c = retell c.later_fits.ensures (λ far. inr far) (λ h. elim h [ inl both ↦ absurd (omega (arith, both.0)) | inr far ↦ far ])
