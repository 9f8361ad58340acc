use mathlib.Core.Logic.{inl, inr, ⊎_elim}
use Rattle.inside_list.proofs.is_module.Goals as goal
use Rattle.inside_rows.specs.ModuleKinds.{same_module, other_module}
use Rattle.inside_rows.specs.declared.ModuleKind.TheVariants.{Pe32, Te}

pub returns-then-eq : goal.returns-then-eq
returns-then-eq c = record { says = inl (same_module _ Pe32 c.eq.ensures c.if-eq.true) }

pub returns-then-eq-2 : goal.returns-then-eq-2
returns-then-eq-2 c = record { says = inr (same_module _ Te c.eq-2.ensures c.if-eq-2.true) }

pub returns : goal.returns
returns c = record { says = λ h. ⊎_elim (other_module _ Pe32 c.eq.ensures c.if-eq.false) (other_module _ Te c.eq-2.ensures c.if-eq-2.false) h }
