use Rattle.std.proofs.Common.{arith, refl, ◌∙◌}
use Rattle.fold_pile.specs.PileLaws.{piled_of}
use Rattle.fold_bodies.specs.BodiesLaws.{piling_start, piling_next, piling_end, piling_not}
use Rattle.fold_bodies.proofs.lay_pile.Goals as goal

pub loop-sheet-init : goal.loop-sheet-init
loop-sheet-init c = (
  omega arith,
  rw (c.into_iter-sheet-iterator.ensures.into_iter_gives, c.sheets-sheet-items.ensures)
      (piling_start _ _ _ _ _ (piled_of _ c.args.pile.now.piled)),
)

pub known-requires : goal.known-requires
known-requires c = (rw c.in-Some.ensures.steps at c.loop-sheet.invariant.1).fit.0

pub lay_sheet-requires : goal.lay_sheet-requires
lay_sheet-requires c =
    let k = rw c.in-Some.ensures.steps at c.loop-sheet.invariant.1 in
    (rw k.long c.requires.0, c.requires.1, c.loop-sheet.invariant.0)

pub shape_of-out-in_default : goal.shape_of-out-in_default
shape_of-out-in_default c = c.in_default.ensures.long ∙ c.loop-sheet.invariant.1.long

pub returns-in_default : goal.returns-in_default
returns-in_default c = piling_not _ _ _ _ _ _ _ _ _ _ _ c.loop-sheet.invariant.1 (rw c.known.ensures at c.in_default.ensures)

pub loop-sheet-preserved : goal.loop-sheet-preserved
loop-sheet-preserved c =
    let k = rw c.in-Some.ensures.steps at c.loop-sheet.invariant.1 in
    (c.in-Some-lay_sheet.ensures.met, piling_next _ _ _ _ _ _ _ _ _ _ _ k (rw c.known.ensures at c.in-Some-lay_sheet.ensures) refl)

pub shape_of-out : goal.shape_of-out
shape_of-out c = c.loop-sheet.invariant.1.long

pub returns : goal.returns
returns c = piling_end _ _ _ _ _ _ (rw c.in-None.ensures.steps.0 at c.loop-sheet.invariant.1)
