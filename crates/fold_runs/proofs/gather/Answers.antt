use Rattle.std.proofs.Common.{sym, ◌∙◌, arith}
use Rattle.fold_pile.specs.PileLaws.{piled_of}
use Rattle.fold_runs.specs.RunsLaws.{gathering_start, gathering_next}
use Rattle.fold_runs.proofs.gather.Goals as goal

pub loop-sheet-init : goal.loop-sheet-init
loop-sheet-init c =
    rw (c.into_iter-sheet-iterator.ensures.into_iter_gives, c.sheets-sheet-items.ensures)
    (gathering_start _ _ _ _ (piled_of _ c.args.pile.now.piled) (record { few = omega arith; some = omega arith; runs = omega arith; met = omega arith; long = c.requires.0; seats = c.requires.1 }))

pub known-requires : goal.known-requires
known-requires c = (rw c.in-Some.ensures.steps at c.loop-sheet.invariant).walk.fit.0

pub take_sheet-g-requires : goal.take_sheet-g-requires
take_sheet-g-requires c = (rw c.in-Some.ensures.steps at c.loop-sheet.invariant).holding

pub after_sheet-g-requires : goal.after_sheet-g-requires
after_sheet-g-requires c = c.take_sheet-g.ensures.holding

pub loop-sheet-preserved : goal.loop-sheet-preserved
loop-sheet-preserved c =
    let k = rw c.in-Some.ensures.steps at c.loop-sheet.invariant in
    gathering_next _ _ _ _ _ _ _ _ _ _ _ _ _ k (rw c.known.ensures at c.take_sheet-g.ensures) c.after_sheet-g.ensures.0 c.after_sheet-g.ensures.1

pub settle-requires : goal.settle-requires
settle-requires c = c.loop-sheet.invariant.holding

pub shape_of-words : goal.shape_of-words
shape_of-words c = c.settle.ensures.0.long ∙ sym c.requires.0

pub shape_of-seats : goal.shape_of-seats
shape_of-seats c = c.settle.ensures.0.seats ∙ sym c.requires.1

pub returns : goal.returns
returns c =
    record { holding = (c.settle.ensures.0, c.settle.ensures.1); sound = λ s. c.settle.ensures.2.sound _ (c.loop-sheet.invariant.sound s) }
