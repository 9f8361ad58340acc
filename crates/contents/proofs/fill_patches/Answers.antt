use Rattle.contents.specs.Filling.{patches_first, patches_next, patches_end}
use Rattle.words.specs.PutLaws.{length_put}
use lib.ListN.{length}
use Prim.Native.Nat.{◌+◌, ◌-◌, ◌*◌}
use mathlib.Core.Path.{refl, sym, ap, ◌∙◌}
use native.Mathlib.Omega.{arith}
use Rattle.contents.proofs.fill_patches.Goals as goal

pub overflow_mul-t : goal.overflow_mul-t
overflow_mul-t c = omega (arith, c.requires.0)

pub overflow_sub-t : goal.overflow_sub-t
overflow_sub-t c = omega (arith, c.requires.0)

pub loop-i-init : goal.loop-i-init
loop-i-init c =
    let a = c.args in
    (omega arith, refl, patches_first a.image.now (a.r.E - 4 * a.r.n) a.r.n a.places.now)

pub spot_at-at-requires : goal.spot_at-at-requires
spot_at-at-requires c =
    let g = c.requires.0 in
    (omega (arith, g), g.placed c.loop-i.i (omega arith))

pub overflow_mul-i : goal.overflow_mul-i
overflow_mul-i c = omega (arith, c.requires.1)

pub overflow_add-i : goal.overflow_add-i
overflow_add-i c = omega (arith, c.requires.1)

pub entry_of-requires : goal.entry_of-requires
entry_of-requires c =
    let L = c.loop-i in
    let g = c.requires.0 in
    (omega arith, omega (arith, c.spot_at-at.ensures, g.word_within L.i (omega arith), g.length_most))

pub put32-requires : goal.put32-requires
put32-requires c =
    omega (arith, c.loop-i.invariant.1, c.requires.1)

pub loop-i-preserved : goal.loop-i-preserved
loop-i-preserved c =
    let L = c.loop-i in
    let a = c.args in
    let t = a.r.E - 4 * a.r.n in (
      omega arith,
      ap length c.put32.ensures ∙ length_put 4 L.places (4 * L.i + 4) c.entry_of.result ∙ L.invariant.1,
      rw (c.put32.ensures, c.entry_of.ensures, c.spot_at-at.ensures)
          (patches_next a.image.now t a.r.n L.places L.i (omega arith) ∙ L.invariant.2),
    )

pub shape_of-places : goal.shape_of-places
shape_of-places c = c.loop-i.invariant.1

pub returns : goal.returns
returns c =
    let L = c.loop-i in
    let a = c.args in
    sym (patches_end a.image.now (a.r.E - 4 * a.r.n) a.r.n L.places L.i (omega arith)) ∙ L.invariant.2
