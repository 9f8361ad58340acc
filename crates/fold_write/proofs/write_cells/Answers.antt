use Rattle.fold_tally.specs.TallyLaws.{through_one, through_none, through_small, through_past, small_up}
use Rattle.fold_sheet.specs.Placing.{placed_cells}
use Rattle.fold_sheet.specs.WindowLaws.{cells_one, cells_none, cells_past, length_cells}
use Prim.Native.Nat.{◌+◌}
use lib.ListN.{length}
use mathlib.Core.Path.{◌≡◌, refl, sym, ap, ◌∙◌}
use native.Mathlib.Omega.{arith}
use Rattle.fold_write.proofs.write_cells.Goals as goal

pub loop-i-init : goal.loop-i-init
loop-i-init c = (omega arith, sym (through_none _ _), sym (cells_none _ _ _ _ _), refl)

pub overflow_add-base : goal.overflow_add-base
overflow_add-base c =
    let pre = c.requires in
    omega (arith, pre.low, pre.long, c.past-i.ensures.0.within)

pub place-requires : goal.place-requires
place-requires c =
    let L = c.loop-i in
    let p = c.past-i in
    let pre = c.requires in
    let e = through_past _ _ _ _ _ L.invariant.1 p.ensures.0 p.ensures.1 in
    rw (L.invariant.3, e) (pre.safe p.result p.ensures.0.within)

pub step-u-requires : goal.step-u-requires
step-u-requires c =
    let L = c.loop-i in
    let s = through_small c.args.cells.now c.args.t 1099511627776 L.i c.requires.small in
    rw L.invariant.1 (small_up s 1099511758848 (omega (arith, c.requires.long)))

pub loop-i-preserved : goal.loop-i-preserved
loop-i-preserved c =
    let L = c.loop-i in
    let p = c.past-i in
    let a = c.args in
    let ys = a.cells.now in
    let u = through_past _ _ _ _ _ L.invariant.1 p.ensures.0 p.ensures.1 in
    let o = cells_past a.m a.base _ _ _ _ _ _ _ L.invariant.1 p.ensures.0 p.ensures.1 L.invariant.2 in
    let e : c.place.new.out ≡ placed_cells a.m a.base ys (p.result + 1) a.t a.out.now =
    c.place.ensures ∙ rw (u, o) (sym (cells_one _ _ _ _ _ _)) in (
      omega (arith, p.ensures.0.within),
      c.step-u.ensures ∙ rw u (sym (through_one _ _ _)),
      e,
      ap length e ∙ length_cells _ _ _ _ _ _,
    )

pub shape_of-out : goal.shape_of-out
shape_of-out c = c.loop-i.invariant.3

pub returns : goal.returns
returns c =
    let e : c.loop-i.i ≡ length c.args.cells.now = omega arith in
    record { value = rw e at c.loop-i.invariant.1; out_after = rw e at c.loop-i.invariant.2 }
