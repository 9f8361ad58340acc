use Rattle.std.proofs.Common.{sym, ◌∙◌, arith}
use Rattle.fold_pile.specs.PileLaws.{judging_start, judging_end, judging_not, judging_bad, judging_next}
use Rattle.fold_pile.specs.Refused.{told_err, number_some}
use Rattle.fold_pile.proofs.check_sheets.Goals as goal

pub loop-sheet-init : goal.loop-sheet-init
loop-sheet-init c = rw (c.into_iter-sheet-iterator.ensures.into_iter_gives, c.sheets_of-sheet-items.ensures) (judging_start c.args.pile.now c.args.first)

pub returns-in_err-check_sheet : goal.returns-in_err-check_sheet
returns-in_err-check_sheet c =
    let e = told_err c.from_residual.result c.in_err-check_sheet.field-0.0 c.from_residual.ensures.1 in
    e ∙ sym (judging_bad _ _ _ _ _ (rw c.in-Some.ensures.steps at c.loop-sheet.invariant) _ c.in_err-check_sheet.ensures (number_some c.in_err-check_sheet.field-0.0))

pub overflow_add-seen-in-loop-sheet : goal.overflow_add-seen-in-loop-sheet
overflow_add-seen-in-loop-sheet c =
    let j = judging_next _ _ _ _ _ (rw c.in-Some.ensures.steps at c.loop-sheet.invariant) c.in_ok-check_sheet.ensures in
    omega (arith, j.within)

pub loop-sheet-preserved : goal.loop-sheet-preserved
loop-sheet-preserved c = judging_next _ _ _ _ _ (rw c.in-Some.ensures.steps at c.loop-sheet.invariant) c.in_ok-check_sheet.ensures

pub returns-then-seen-pile : goal.returns-then-seen-pile
returns-then-seen-pile c =
    sym (judging_not _ _ _ (rw c.in-None.ensures.steps.0 at c.loop-sheet.invariant) c.if-seen-pile.true)

pub returns : goal.returns
returns c =
    let j = rw c.in-None.ensures.steps.0 at c.loop-sheet.invariant in
    sym (judging_end _ _ _ j (omega (arith, j.within)))
