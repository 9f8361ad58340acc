use mathlib.Core.Path.{sym, ap, ◌∙◌}
use mathlib.Core.List.{List}
use Prim.Native.Nat.{ℕ}
use Rattle.answers.specs.declared.Reading.{Reading}
use Rattle.reading_rules.specs.Edition.{guaranteed}
use Rattle.move_image.specs.Moving.{move_to}
use Rattle.mend_file.specs.PutBack.{restored}
use Rattle.mend_file.specs.Laid.{laid, laid_guaranteed, laid_restores}
use Rattle.mend_file.proofs.put_back.Goals as goal

pub lay_over-requires : goal.lay_over-requires
lay_over-requires c =
    let g = guaranteed c.args.vendor.now c.requires.1 in
    (c.requires.2, g.length_most, rw c.requires.0 g.z_least, rw c.requires.0 g.region_within)

pub move_to-requires : goal.move_to-requires
move_to-requires c =
    let a = c.args in
    rw (c.lay_over.ensures, c.requires.0)
    (laid_guaranteed a.vendor.now a.file.now c.requires.1 c.requires.2, c.requires.3)

pub returns : goal.returns
returns c =
    let a = c.args in
    let xs = a.vendor.now in
    let ys = a.file.now in
    c.move_to.ensures
    ∙ ap (λ (l : List ℕ). move_to l a.r a.base) c.lay_over.ensures
    ∙ ap (λ (q : Reading). move_to (laid xs ys q) q a.base) c.requires.0
    ∙ laid_restores xs ys c.requires.1 c.requires.2 a.base
    ∙ ap (λ (q : Reading). restored (move_to xs q a.base) q ys) (sym c.requires.0)
