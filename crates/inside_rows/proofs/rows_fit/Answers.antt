use Rattle.std.specs.Prelude.{not}
use Rattle.std.proofs.Common.{ap}
use Rattle.facts.specs.FactLaws.{granted, refuted}
use borrow.Author.Count.{below_more}
use native.Mathlib.Omega.{arith}
use Rattle.inside_rows.proofs.rows_fit.Goals as goal

pub loop-i-init : goal.loop-i-init
loop-i-init c = (omega arith, λ j h. absurd (omega arith))

pub returns-then-not-data_fits : goal.returns-then-not-data_fits
returns-then-not-data_fits c =
    record {
      says = λ p. refuted c.data_fits.ensures (ap not c.if-not-data_fits.true) (rw c.row_at-w.ensures.0
          (p c.loop-i.i (omega arith)));
    }

pub loop-i-preserved : goal.loop-i-preserved
loop-i-preserved c = (
  omega arith,
  below_more _ _ c.loop-i.invariant.1 (rw c.row_at-w.ensures.0
      at (granted c.data_fits.ensures (ap not c.if-not-data_fits.false))),
)

pub returns : goal.returns
returns c = record { says = λ i l. c.loop-i.invariant.1 i (omega arith) }
