use Rattle.move_modules.specs.Relocate.{add_item}
use Rattle.move_modules.specs.AddItem.{add_four, add_eight}
use Rattle.std.proofs.Common.{sym, ◌∙◌, ⊎_elim, arith, ne_eqb}
use Rattle.move_modules.proofs.add_item.Goals as goal
use Rattle.items.specs.Kinds.{same_kind, other_kind}
use Rattle.items.specs.declared.Kind.TheVariants.{Word}

pub add32-requires : goal.add32-requires
add32-requires c =
    ⊎_elim (λ h. absurd (h (same_kind _ Word c.eq.ensures c.if-eq.true))) (λ h. omega arith) c.requires

pub add64-requires : goal.add64-requires
add64-requires c =
    ⊎_elim (λ h. absurd (h (same_kind _ Word c.eq.ensures c.if-eq.true)))
    (λ h. ⊎_elim (λ e. absurd (c.if-x-eq4.false e)) (λ e. omega arith) h.1) c.requires

pub returns-then-x-eq4 : goal.returns-then-x-eq4
returns-then-x-eq4 c =
    c.add32.ensures ∙ sym (add_four _ _ _ _ (same_kind _ Word c.eq.ensures c.if-eq.true) c.if-x-eq4.true)

pub returns-else-x-eq4 : goal.returns-else-x-eq4
returns-else-x-eq4 c =
    ⊎_elim (λ h. absurd (h (same_kind _ Word c.eq.ensures c.if-eq.true)))
    (λ h.
    ⊎_elim (λ e. absurd (c.if-x-eq4.false e))
    (λ e. c.add64.ensures ∙ sym (add_eight _ _ _ _ (same_kind _ Word c.eq.ensures c.if-eq.true) e)) h.1) c.requires

pub returns-else-eq : goal.returns-else-eq
unfolding add_item
returns-else-eq c = rw (ne_eqb _ 2 (other_kind _ Word c.eq.ensures c.if-eq.false))
