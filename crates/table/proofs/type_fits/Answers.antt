use mathlib.Core.Logic.{inl, inr, ⊎_elim}
use Rattle.table.proofs.type_fits.Goals as goal

pub returns-then-kind-eq0 : goal.returns-then-kind-eq0
returns-then-kind-eq0 c = record { says = inl c.if-kind-eq0.true }

pub returns-then-kind-eq15 : goal.returns-then-kind-eq15
returns-then-kind-eq15 c = record { says = inr c.if-kind-eq15.true }

pub returns : goal.returns
returns c = record { says = λ h. ⊎_elim c.if-kind-eq0.false c.if-kind-eq15.false h }
