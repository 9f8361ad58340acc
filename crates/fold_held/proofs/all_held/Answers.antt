use Rattle.std.proofs.Common.{arith}
use mathlib.Core.Bool.{false≢true}
use Rattle.fold_pile.specs.PileLaws.{piled_of}
use Rattle.fold_held.specs.HeldLaws.{sought_start, sought_next, sought_end}
use Rattle.fold_held.proofs.all_held.Goals as goal

pub loop-sheet-init : goal.loop-sheet-init
loop-sheet-init c = (
  omega arith,
  rw (c.into_iter-sheet-iterator.ensures.into_iter_gives, c.sheets-sheet-items.ensures)
      (sought_start _ _ (piled_of _ c.args.pile.now.piled)),
)

pub known-requires : goal.known-requires
known-requires c = (rw c.in-Some.ensures.steps at c.loop-sheet.invariant.1).fit.0

pub sheet_held-requires : goal.sheet_held-requires
sheet_held-requires c = (c.requires, c.loop-sheet.invariant.0)

pub returns-in_default : goal.returns-in_default
returns-in_default c = λ e. absurd (false≢true e)

pub loop-sheet-preserved : goal.loop-sheet-preserved
loop-sheet-preserved c =
    let k = rw c.in-Some.ensures.steps at c.loop-sheet.invariant.1 in
    (c.in-Some-sheet_held.ensures.0, sought_next _ _ _ _ k (rw c.known.ensures at c.in-Some-sheet_held.ensures.1))

pub returns : goal.returns
returns c = λ e. sought_end _ _ (rw c.in-None.ensures.steps.0 at c.loop-sheet.invariant.1)
