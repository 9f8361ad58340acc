use Rattle.fold_tally.specs.TallyLaws.{through_one, through_none, through_small, through_past, small_up}
use lib.ListN.{length}
use mathlib.Core.Path.{◌≡◌, sym, ◌∙◌}
use native.Mathlib.Omega.{arith}
use Rattle.fold_tally.proofs.count_cells.Goals as goal

pub loop-i-init : goal.loop-i-init
loop-i-init c = (omega arith, sym (through_none _ _))

pub step-u-requires : goal.step-u-requires
step-u-requires c =
    let i = c.loop-i.i in
    let s = through_small c.args.cells.now c.args.t 1099511627776 i c.requires.0 in
    rw c.loop-i.invariant.1 (small_up s 1099511758848 (omega (arith, c.requires.1)))

pub loop-i-preserved : goal.loop-i-preserved
loop-i-preserved c =
    let L = c.loop-i in
    let p = c.past-i in
    let e = through_past _ _ _ _ _ L.invariant.1 p.ensures.0 p.ensures.1 in
    (omega (arith, p.ensures.0.within), c.step-u.ensures ∙ rw e (sym (through_one _ _ _)))

pub returns : goal.returns
returns c =
    let e : c.loop-i.i ≡ length c.args.cells.now = omega arith in
    rw e at c.loop-i.invariant.1
