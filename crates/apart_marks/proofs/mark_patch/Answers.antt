use Rattle.apart_marks.specs.MarksLaws.{patch_none, patch_marked}
use mathlib.Core.Path.{◌≡◌, sym, ◌∙◌}
use native.Mathlib.Omega.{arith}
use Rattle.apart_marks.proofs.mark_patch.Goals as goal

pub loop-i-init : goal.loop-i-init
loop-i-init c = patch_none _ _ _ _ c.requires.1

pub spot_at-p-requires : goal.spot_at-p-requires
spot_at-p-requires c =
    let i = c.loop-i.i in
    let patch = c.requires.0 in
    (omega (arith, patch.table), patch.good i (omega arith))

pub overflow_add-p : goal.overflow_add-p
overflow_add-p c =
    let patch = c.requires.0 in
    omega (arith, c.spot_at-p.ensures, patch.ends c.loop-i.i (omega arith), patch.small)

pub paint_in-requires : goal.paint_in-requires
paint_in-requires c =
    (c.loop-i.invariant.long, omega arith)

pub loop-i-preserved : goal.loop-i-preserved
loop-i-preserved c = patch_marked _ _ _ _ _ _ _ _ c.loop-i.invariant c.spot_at-p.ensures c.paint_in.ensures

pub shape_of-marks : goal.shape_of-marks
shape_of-marks c = c.loop-i.invariant.long ∙ sym c.requires.1.long

pub returns : goal.returns
returns c =
    let a = c.args in
    let e : c.loop-i.i ≡ a.n = omega arith in
    rw e at c.loop-i.invariant
