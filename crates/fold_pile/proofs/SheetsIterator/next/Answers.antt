use Rattle.std.proofs.Common.{◌≡◌, ◌∷◌, length, sym, ap, ◌∙◌, rules}
use Rattle.fold_pile.specs.Pile.{sheets}
use Rattle.fold_pile.specs.SheetsLaws.{no_length, no_sheet, a_sheet}
use Rattle.fold_pile.proofs.SheetsIterator.next.Goals as goal

pub returns-in_err-length-clause-steps : goal.returns-in_err-length-clause-steps
returns-in_err-length-clause-steps c =
    let none = sym c.self.view_is ∙ no_length _ c.in_err-length.ensures.cases in rw c.from_residual.ensures (none, none)

pub returns-in_err-sheet-clause-steps : goal.returns-in_err-sheet-clause-steps
returns-in_err-sheet-clause-steps c =
    let (_, front, back, _, _) = c.in_ok-length.ensures.cases in
    let none = sym c.self.view_is ∙ no_sheet _ c.le32.result (rw front at c.le32.ensures.is) (rw back at c.in_err-sheet.ensures.cases) in
    rw c.from_residual-in_err-sheet.ensures (none, none)

pub returns-clause-steps : goal.returns-clause-steps
returns-clause-steps c =
    let (long, front, back, _, _) = c.in_ok-length.ensures.cases in
    let (whole, sheet, rest, _, _) = c.in_ok-sheet.ensures.cases in
    rw (sheet, rest, back) (sym c.self.view_is ∙ a_sheet _ c.le32.result (rw front at c.le32.ensures.is) long (rw back at whole))

pub returns-clause-goes : goal.returns-clause-goes
returns-clause-goes c =
    let (long, front, back, _, _) = c.in_ok-length.ensures.cases in
    let (whole, sheet, rest, _, _) = c.in_ok-sheet.ensures.cases in
    let step : c.args.self.now ≡ c.in_ok-sheet.sheet.now ∷ sheets c.in_ok-sheet.rest.now =
    rw (sheet, rest, back) (sym c.self.view_is ∙ a_sheet _ c.le32.result (rw front at c.le32.ensures.is) long (rw back at whole)) in
    let shorter = ap length step in search rules
