use Rattle.inside_list.specs.Counting.{counting_first, counting_room, counting_end, counting_next, step_fits}
use Rattle.words.specs.Le.{Bytes}
use native.Mathlib.Omega.{arith}
use Rattle.inside_list.proofs.count.Goals as goal
use Rattle.inside_files.specs.PartKinds.{same_part, other_part}
use Rattle.inside_files.specs.declared.PartKind.TheVariants.{End}

bytes : (c : goal.After-module_in-m) → Bytes c.args.image.now
unfolding Bytes
bytes c = λ i. omega (arith, c.type_inv.image i)

pub first-c-requires : goal.first-c-requires
first-c-requires c = let w = c.requires in (w.head, w.small)

pub loop-t-init : goal.loop-t-init
loop-t-init c =
    let a = c.args in
    counting_first a.image.now a.v a.f c.requires c.first-c.result c.first-c.ensures

pub step-t-requires : goal.step-t-requires
step-t-requires c =
    let w = c.requires in (w.within, omega (arith, w.within, w.small), c.loop-t.invariant.valid)

pub returns-then-eq : goal.returns-then-eq
returns-then-eq c =
    let L = c.loop-t in
    let a = c.args in
    counting_end a.image.now a.v a.f c.requires L.n L.c L.invariant c.step-t.result c.step-t.ensures
    (same_part _ End c.eq.ensures c.if-eq.true)

pub module_in-m-requires : goal.module_in-m-requires
module_in-m-requires c =
    let w = c.requires in
    (w.small, λ k. let i = c.step-t.ensures.inside k in (i.0, omega (arith, i.1, w.within)))

pub count_module-n-requires : goal.count_module-n-requires
count_module-n-requires c =
    let L = c.loop-t in
    let w = c.requires in
    let a = c.args in (
      rw c.module_in-m.ensures
          (step_fits a.image.now a.v L.c c.step-t.result (bytes c) w.within w.small c.step-t.ensures),
      counting_room a.image.now a.v a.f w L.n L.c L.invariant (bytes c),
    )

pub loop-t-smaller : goal.loop-t-smaller
loop-t-smaller c =
    c.step-t.ensures.less (other_part _ End c.eq.ensures c.if-eq.false)

pub loop-t-preserved : goal.loop-t-preserved
loop-t-preserved c =
    let L = c.loop-t in
    let a = c.args in
    counting_next a.image.now a.v a.f c.requires L.n L.c L.invariant c.step-t.result c.step-t.ensures
    (other_part _ End c.eq.ensures c.if-eq.false) c.count_module-n.result (rw c.module_in-m.ensures at c.count_module-n.ensures)
