use Rattle.inside_list.specs.Counting.{step_known, step_fits}
use Rattle.inside_list.specs.Filling.{filling_first, filling_end, module_room, filling_next, of_small}
use Rattle.words.specs.Le.{Bytes}
use native.Mathlib.Omega.{arith}
use Rattle.inside_list.proofs.fill.Goals as goal
use Rattle.inside_files.specs.PartKinds.{same_part, other_part}
use Rattle.inside_files.specs.declared.PartKind.TheVariants.{End}

bytes : (c : goal.After-fill_module-arg-1) → Bytes c.args.image.now
unfolding Bytes
bytes c = λ i. omega (arith, c.type_inv.image i)

pub first-c-requires : goal.first-c-requires
first-c-requires c = let w = c.requires.0 in (w.head, w.small)

pub loop-t-init : goal.loop-t-init
loop-t-init c =
    let a = c.args in
    filling_first a.image.now a.v a.f a.places.now a.k c.first-c.result c.requires.0 c.first-c.ensures

pub step-t-requires : goal.step-t-requires
step-t-requires c =
    let w = c.requires.0 in (w.within, omega (arith, w.within, w.small), c.loop-t.invariant.valid)

pub shape_of-places-then-eq : goal.shape_of-places-then-eq
shape_of-places-then-eq c = c.loop-t.invariant.long

pub returns-then-eq : goal.returns-then-eq
returns-then-eq c =
    let L = c.loop-t in
    let a = c.args in
    filling_end a.image.now a.v a.f a.places.now a.k L.places L.file L.i L.c c.step-t.result L.invariant
    c.step-t.ensures (same_part _ End c.eq.ensures c.if-eq.true)

pub module_in-m-requires : goal.module_in-m-requires
module_in-m-requires c =
    let w = c.requires.0 in
    (w.small, λ k. let i = c.step-t.ensures.inside k in (i.0, omega (arith, i.1, w.within)))

pub fill_module-i-requires : goal.fill_module-i-requires
fill_module-i-requires c =
    let t = c.step-t.result in
    let on = c.step-t.ensures in
    let L = c.loop-t in
    let w = c.requires.0 in
    let a = c.args in
    rw (c.module_in-m.ensures, c.file_of-file.ensures) (
      step_fits a.image.now a.v L.c t (bytes c) w.within w.small on,
      (step_known a.image.now a.v L.c t w.within w.small L.invariant.valid on (other_part _ End c.eq.ensures c.if-eq.false)).words,
      of_small L.file t.part L.invariant.small on.small,
      omega (arith, on.small),
      module_room a.image.now a.v a.f a.places.now a.k L.places L.file L.i L.c t L.invariant on (other_part _ End c.eq.ensures c.if-eq.false)
          c.requires.1,
    )

pub loop-t-smaller : goal.loop-t-smaller
loop-t-smaller c =
    c.step-t.ensures.less (other_part _ End c.eq.ensures c.if-eq.false)

pub loop-t-preserved : goal.loop-t-preserved
loop-t-preserved c =
    let L = c.loop-t in
    let a = c.args in
    let e = rw (c.module_in-m.ensures, c.file_of-file.ensures) at c.fill_module-i.ensures in
    rw c.file_of-file.ensures
    (filling_next a.image.now a.v a.f a.places.now a.k L.places L.file L.i L.c c.step-t.result L.invariant
    c.step-t.ensures (other_part _ End c.eq.ensures c.if-eq.false) c.fill_module-i.new.places c.fill_module-i.result e.0 e.1)
