use mathlib.Core.Logic.{inl, inr, ⊎_elim}
use Rattle.owners.proofs.known_owner.Goals as goal

pub returns-then-owner-eq1 : goal.returns-then-owner-eq1
returns-then-owner-eq1 c = record { says = inl c.if-owner-eq1.true }

pub returns-then-owner-eq2 : goal.returns-then-owner-eq2
returns-then-owner-eq2 c = record { says = inr c.if-owner-eq2.true }

pub returns : goal.returns
returns c = record { says = λ h. ⊎_elim c.if-owner-eq1.false c.if-owner-eq2.false h }
