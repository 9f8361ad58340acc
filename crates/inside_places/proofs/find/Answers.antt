use Rattle.std.specs.Prelude.{◌≡◌}
use Rattle.inside_rows.specs.Rows.{te_kind, module_number}
use Rattle.inside_rows.specs.ModuleKinds.{same_module, other_module}
use Rattle.inside_places.specs.Places.{found}
use borrow.Author.Tests.{eq-eqb, ne_eqb}
use Rattle.inside_places.proofs.find.Goals as goal
use Rattle.inside_rows.specs.declared.ModuleKind.TheVariants.{Te}

pub returns-then-eq : goal.returns-then-eq
unfolding found
returns-then-eq c =
    let k : module_number c.args.m.kind ≡ te_kind = same_module _ Te c.eq.ensures c.if-eq.true in
    let e = c.shift.ensures in
    (rw (eq-eqb _ te_kind k) e.0, e.1, e.2)

pub returns : goal.returns
unfolding found
returns c =
    let k : module_number c.args.m.kind ≡ te_kind → ⊥ = other_module _ Te c.eq.ensures c.if-eq.false in
    let e = c.find_in.ensures in
    (rw (ne_eqb _ te_kind k) e.0, e.1, e.2)
