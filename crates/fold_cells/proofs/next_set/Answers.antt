use Rattle.std.proofs.Common.{arith}
use Rattle.fold_pile.specs.PileLaws.{piled_of}
use Rattle.fold_cells.specs.CellsLaws.{seeking_start, seeking_next, seeking_end}
use Rattle.fold_cells.proofs.next_set.Goals as goal

pub loop-sheet-init : goal.loop-sheet-init
loop-sheet-init c = (
  rw (c.into_iter-sheet-iterator.ensures.into_iter_gives, c.sheets-sheet-items.ensures)
      (seeking_start _ _ _ (piled_of _ c.args.pile.now.piled) c.requires),
  omega arith,
)

pub known-requires : goal.known-requires
known-requires c = (rw c.in-Some.ensures.steps at c.loop-sheet.invariant.0).fit.0

pub lowest-low-requires : goal.lowest-low-requires
lowest-low-requires c = (rw c.in-Some.ensures.steps at c.loop-sheet.invariant.0).within

pub loop-sheet-preserved : goal.loop-sheet-preserved
loop-sheet-preserved c =
    let u = rw c.known.ensures at c.lowest-low.ensures in
    (seeking_next _ _ _ _ _ _ (rw c.in-Some.ensures.steps at c.loop-sheet.invariant.0) u.0 u.1, omega (arith, u.1, c.loop-sheet.invariant.1))

pub returns : goal.returns
returns c = (seeking_end _ _ _ (rw c.in-None.ensures.steps.0 at c.loop-sheet.invariant.0), c.loop-sheet.invariant.1)
