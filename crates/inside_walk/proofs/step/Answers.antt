use Rattle.inside_walk.specs.WholeLaws.{inner, ended}
use mathlib.Core.Path.{refl}
use Rattle.inside_walk.proofs.step.Goals as goal
use Rattle.items.specs.Kinds.{same_kind_not, other_kind_not}
use Rattle.items.specs.declared.Kind.TheVariants.{End}

pub returns-then-ne : goal.returns-then-ne
returns-then-ne c =
    let a = c.args in
    inner a.image.now a.v a.s c.requires.2 c.step-t.result _ c.step-t.ensures (other_kind_not _ End c.ne.ensures c.if-ne.true) refl

pub part_step-requires : goal.part_step-requires
part_step-requires c =
    let a = c.args in
    let end = ended a.image.now a.v a.s c.requires.2 c.step-t.result c.step-t.ensures (same_kind_not _ End c.ne.ensures c.if-ne.false) in
    (c.requires.0, c.requires.1, c.requires.2, end)
