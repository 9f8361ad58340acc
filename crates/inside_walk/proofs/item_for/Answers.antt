use Rattle.std.specs.Prelude.{◌≡◌}
use Rattle.inside_files.specs.Parts.{section_part, part_number}
use Rattle.inside_files.specs.PartKinds.{same_part, other_part}
use Rattle.inside_rows.specs.Rows.{bad_kind, module_number}
use Rattle.inside_rows.specs.ModuleKinds.{same_module, other_module}
use Rattle.inside_walk.specs.Whole.{item_for}
use Rattle.inside_walk.specs.Own.{own_end}
use native.Mathlib.Omega.{arith}
use borrow.Author.Tests.{eq-eqb, ne_eqb}
use Rattle.inside_walk.proofs.item_for.Goals as goal
use Rattle.inside_rows.specs.declared.ModuleKind.TheVariants.{Bad}
use Rattle.inside_files.specs.declared.PartKind.TheVariants.{Section}

pub returns-then-eq-2 : goal.returns-then-eq-2
unfolding item_for
returns-then-eq-2 c =
    let k : part_number c.args.p.kind ≡ section_part = same_part _ Section c.eq.ensures c.if-eq.true in
    let b : module_number c.args.m.kind ≡ bad_kind = same_module _ Bad c.eq-then-eq.ensures c.if-eq-2.true in
    (rw (eq-eqb _ section_part k, eq-eqb _ bad_kind b), (λ z. absurd (omega arith)), omega arith)

pub returns-then-eq : goal.returns-then-eq
unfolding item_for
returns-then-eq c =
    let k : part_number c.args.p.kind ≡ section_part = same_part _ Section c.eq.ensures c.if-eq.true in
    let b : module_number c.args.m.kind ≡ bad_kind → ⊥ = other_module _ Bad c.eq-then-eq.ensures c.if-eq-2.false in
    (rw (eq-eqb _ section_part k, ne_eqb _ bad_kind b), (λ z. absurd (omega arith)), omega arith)

pub returns : goal.returns
unfolding item_for
returns c =
    let k : part_number c.args.p.kind ≡ section_part → ⊥ = other_part _ Section c.eq.ensures c.if-eq.false in
    let e = c.item_kind.ensures in
    (rw (ne_eqb _ section_part k, e), (λ z. own_end _ (rw e at z)), omega arith)
