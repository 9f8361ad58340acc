use Rattle.std.proofs.Common.{◌≡◌, refl, sym, ◌∙◌, arith}
use Rattle.std.proofs.lemmas.Result.{err_from_is_err_and}
use Rattle.fold_pile.specs.Pile.{pile_identity}
use Rattle.fold_pile.specs.PileLaws.{pile_on, pile_not, pile_unfit, is_piled, pile_fitting}
use Rattle.fold_pile.specs.SheetsLaws.{first_some, first_none}
use Rattle.fold_pile.proofs.Pile.check.Goals as goal

pub returns-in_default : goal.returns-in_default
returns-in_default c = sym (pile_not _ (first_none _ (sym c.sheets_of.ensures ∙ c.in_default.ensures.steps.0)))

pub returns-in_default-of : goal.returns-in_default-of
returns-in_default-of c =
    let f = first_some _ _ _ (sym c.sheets_of.ensures ∙ c.in-Some.ensures.steps) in
    sym (pile_unfit _ f.0 (rw f.1 at c.in_default-of.ensures))

pub returns-in_err-check_sheets : goal.returns-in_err-check_sheets
returns-in_err-check_sheets c =
    let p = err_from_is_err_and c.from_residual.result c.from_residual.ensures.1 in
    let f = first_some _ _ _ (sym c.sheets_of.ensures ∙ c.in-Some.ensures.steps) in
    let e : c.identity-first.result ≡ pile_identity c.args.bytes.now = rw (c.in-Some-of.ensures.0, f.1) at c.identity-first.ensures in
    rw (p.1, p.2) (rw e at c.in_err-check_sheets.ensures ∙ sym (pile_on c.args.bytes.now (omega (arith, f.0))))

pub invariant_of-result : goal.invariant_of-result
invariant_of-result c =
    let f = first_some _ _ _ (sym c.sheets_of.ensures ∙ c.in-Some.ensures.steps) in
    let e : c.identity-first.result ≡ pile_identity c.args.bytes.now = rw (c.in-Some-of.ensures.0, f.1) at c.identity-first.ensures in
    record { in_range = λ k. omega (arith, c.type_inv.bytes k); piled = pile_fitting _ (is_piled _ (pile_on c.args.bytes.now (omega (arith, f.0)) ∙ sym (rw e at c.in_ok-check_sheets.ensures))); named = e }

pub returns : goal.returns
returns c =
    let f = first_some _ _ _ (sym c.sheets_of.ensures ∙ c.in-Some.ensures.steps) in
    let e : c.identity-first.result ≡ pile_identity c.args.bytes.now = rw (c.in-Some-of.ensures.0, f.1) at c.identity-first.ensures in
    (refl, pile_on c.args.bytes.now (omega (arith, f.0)) ∙ sym (rw e at c.in_ok-check_sheets.ensures))
