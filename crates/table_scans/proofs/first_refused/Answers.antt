use Rattle.table.specs.declared.Place.{Place}
use Rattle.facts.specs.FirstLaws.{is_first}
use borrow.Author.Count.{below_more}
use mathlib.Core.Path.{ap, sym, ◌∙◌}
use native.Mathlib.Omega.{arith}
use Rattle.table_scans.proofs.first_refused.Goals as goal

pub returns-then-point_at-number : goal.returns-then-point_at-number
returns-then-point_at-number c = (
  omega arith,
  is_first (record {
    within = omega arith;
    clear = c.loop-i.invariant;
    fault = λ h p. p (sym (ap (λ (w : Place). w.number) c.point_at.ensures) ∙ c.if-point_at-number.true);
  }),
)

pub loop-i-preserved : goal.loop-i-preserved
loop-i-preserved c =
    below_more _ _ c.loop-i.invariant
    (λ e. c.if-point_at-number.false (ap (λ (w : Place). w.number) c.point_at.ensures ∙ e))

pub returns : goal.returns
returns c =
    is_first (record { within = omega arith; clear = λ i h. c.loop-i.invariant i (omega arith); fault = λ h. absurd (omega arith) })
