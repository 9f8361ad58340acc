use mathlib.Core.Logic.{inl, inr}
use native.Mathlib.Omega.{arith}
use Rattle.inside_rows.proofs.data_fits.Goals as goal

pub returns-then-w-eq0 : goal.returns-then-w-eq0
returns-then-w-eq0 c = record { says = inl c.if-w-eq0.true }

pub returns-then-w-s : goal.returns-then-w-s
returns-then-w-s c = record { says = λ h. elim h [ inl z ↦ c.if-w-eq0.false z | inr p ↦ omega (arith, p.0) ] }

pub returns-then-hi-lo : goal.returns-then-hi-lo
returns-then-hi-lo c = record { says = λ h. elim h [ inl z ↦ c.if-w-eq0.false z | inr p ↦ omega (arith, p.1) ] }

pub returns : goal.returns
returns c = record { says = inr (omega arith, omega arith) }
