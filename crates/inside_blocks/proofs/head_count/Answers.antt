use Rattle.std.specs.Prelude.{◌≡◌}
use Rattle.inside_rows.specs.Rows.{pe_kind, te_kind, module_number}
use Rattle.inside_rows.specs.ModuleKinds.{same_module, other_module}
use Rattle.inside_blocks.specs.Blocks.{head_count}
use borrow.Author.Tests.{eq-eqb, ne_eqb}
use Rattle.inside_blocks.proofs.head_count.Goals as goal
use Rattle.inside_rows.specs.declared.ModuleKind.TheVariants.{Pe32, Te}

pub returns-then-eq : goal.returns-then-eq
unfolding head_count
returns-then-eq c =
    let k : module_number c.args.m.kind ≡ pe_kind = same_module _ Pe32 c.eq.ensures c.if-eq.true in
    rw (eq-eqb _ pe_kind k)

pub returns-then-eq-2 : goal.returns-then-eq-2
unfolding head_count
returns-then-eq-2 c =
    let n : module_number c.args.m.kind ≡ pe_kind → ⊥ = other_module _ Pe32 c.eq.ensures c.if-eq.false in
    let k : module_number c.args.m.kind ≡ te_kind = same_module _ Te c.eq-2.ensures c.if-eq-2.true in
    rw (ne_eqb _ pe_kind n, eq-eqb _ te_kind k)

pub returns : goal.returns
unfolding head_count
returns c =
    let n : module_number c.args.m.kind ≡ pe_kind → ⊥ = other_module _ Pe32 c.eq.ensures c.if-eq.false in
    let k : module_number c.args.m.kind ≡ te_kind → ⊥ = other_module _ Te c.eq-2.ensures c.if-eq-2.false in
    rw (ne_eqb _ pe_kind n, ne_eqb _ te_kind k)
