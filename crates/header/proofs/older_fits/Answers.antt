use native.Mathlib.Omega.{arith}
use mathlib.Core.Logic.{inl, inr}
use Rattle.header.proofs.older_fits.Goals as goal

pub returns-then-L-eq60 : goal.returns-then-L-eq60
returns-then-L-eq60 c = record { says = inl (omega arith) }

pub returns-then-L-ne64 : goal.returns-then-L-ne64
returns-then-L-ne64 c = record { says = λ h. elim h [ inl short ↦ omega arith | inr long ↦ omega arith ] }

pub returns : goal.returns
returns c = record { says = inr (omega arith) }
