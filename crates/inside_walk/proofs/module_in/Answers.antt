use Rattle.std.specs.Prelude.{◌≡◌}
use Rattle.inside_files.specs.Parts.{section_part, part_number}
use Rattle.inside_files.specs.PartKinds.{same_part, other_part}
use Rattle.inside_walk.specs.Whole.{module_in}
use native.Mathlib.Omega.{arith}
use borrow.Author.Tests.{eq-eqb, ne_eqb}
use Rattle.inside_walk.proofs.module_in.Goals as goal
use Rattle.inside_files.specs.declared.PartKind.TheVariants.{Section}

pub overflow_add-lo : goal.overflow_add-lo
overflow_add-lo c = omega (arith, c.requires.1 (same_part _ Section c.eq.ensures c.if-eq.true), c.requires.0)

pub overflow_add-hi : goal.overflow_add-hi
overflow_add-hi c = omega (arith, c.requires.1 (same_part _ Section c.eq.ensures c.if-eq.true), c.requires.0)

pub module_of-requires : goal.module_of-requires
module_of-requires c = omega (arith, c.requires.1 (same_part _ Section c.eq.ensures c.if-eq.true), c.requires.0)

pub returns-then-eq : goal.returns-then-eq
unfolding module_in
returns-then-eq c =
    let k : part_number c.args.p.kind ≡ section_part = same_part _ Section c.eq.ensures c.if-eq.true in
    rw (eq-eqb _ section_part k) c.module_of.ensures

pub returns : goal.returns
unfolding module_in
returns c =
    let k : part_number c.args.p.kind ≡ section_part → ⊥ = other_part _ Section c.eq.ensures c.if-eq.false in
    rw (ne_eqb _ section_part k) c.none.ensures
