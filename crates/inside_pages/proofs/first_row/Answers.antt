use Rattle.facts.specs.FactLaws.{holds, fails_not, is_test}
use borrow.Author.Count.{below_more}
use mathlib.Core.Path.{◌≡◌, sym, ◌∙◌}
use native.Mathlib.Omega.{arith}
use Rattle.inside_pages.proofs.first_row.Goals as goal

pub loop-i-init : goal.loop-i-init
loop-i-init c = (omega arith, λ j h. absurd (omega arith))

pub returns-then-row_reaches : goal.returns-then-row_reaches
returns-then-row_reaches c = (
  omega arith,
  record {
    clear = c.loop-i.invariant.1;
    here = λ h. rw c.row_at.ensures.0 at (holds _ (sym (is_test c.row_reaches.ensures) ∙ c.if-row_reaches.true));
  },
)

pub loop-i-preserved : goal.loop-i-preserved
loop-i-preserved c = (
  omega arith,
  below_more _ _ c.loop-i.invariant.1
      (λ d. fails_not _ (sym (is_test c.row_reaches.ensures) ∙ c.if-row_reaches.false) (rw c.row_at.ensures.0 d)),
)

pub returns : goal.returns
returns c =
    let e : c.loop-i.i ≡ c.args.m.rows = omega arith in
    record { clear = rw e at c.loop-i.invariant.1; here = λ h. absurd (omega arith) }
