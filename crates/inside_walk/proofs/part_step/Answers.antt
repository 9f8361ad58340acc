use Rattle.inside_walk.specs.WholeLaws.{module_in_fits, last, outer}
use Rattle.words.specs.Le.{Bytes}
use mathlib.Core.Path.{refl}
use native.Mathlib.Omega.{arith}
use Rattle.inside_walk.proofs.part_step.Goals as goal
use Rattle.inside_files.specs.PartKinds.{same_part, other_part}
use Rattle.inside_files.specs.Parts.{no_part, part_number}
use Rattle.std.specs.Prelude.{◌≡◌}
use Rattle.inside_files.specs.declared.PartKind.TheVariants.{End}

bytes : (c : goal.After-start) → Bytes c.args.image.now
unfolding Bytes
bytes c = λ i. omega (arith, c.type_inv.image i)

pub returns-then-eq : goal.returns-then-eq
returns-then-eq c =
    let a = c.args in
    last a.image.now a.v a.s c.requires.2 a.x c.requires.3 c.step-u.result c.step-u.ensures _
    (same_part _ End c.eq.ensures c.if-eq.true) refl

pub module_in-m-requires : goal.module_in-m-requires
module_in-m-requires c =
    (c.requires.1, λ k. let i = c.step-u.ensures.inside k in (i.0, omega (arith, i.1, c.requires.0)))

pub returns : goal.returns
returns c =
    let a = c.args in
    let p = c.step-u.result in
    let on = c.step-u.ensures in
    let e = c.module_in-m.ensures in
    let is = c.item_for-item.ensures in
    let some : part_number p.part.kind ≡ no_part → ⊥ = other_part _ End c.eq.ensures c.if-eq.false in
    outer a.image.now a.v a.s c.requires.2 a.x c.requires.3 p on _ some
    (module_in_fits a.image.now p.part (bytes c) c.requires.1 (λ k. omega (arith, (on.inside k).1, c.requires.0)))
    (λ z. some (is.1 (rw (is.0, e) z))) (rw (is.0, e) at is.2) (rw (is.0, c.start.ensures, e))
