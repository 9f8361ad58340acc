use Rattle.fold_cells.specs.CellsLaws.{entered_none, entered_part, length_celled}
use lib.ListN.{length}
use mathlib.Core.Path.{ap, ◌∙◌}
use native.Mathlib.Omega.{arith}
use Rattle.fold_cells.proofs.enter.Goals as goal

pub returns-then-e-a : goal.returns-then-e-a
returns-then-e-a c =
    entered_none _ _ _ _ c.max-a.result c.min-e.result c.if-e-a.true (omega arith) (omega arith) (λ h. omega arith) (omega arith) (omega arith)
    (λ h. omega arith)

pub set_cells-requires : goal.set_cells-requires
set_cells-requires c = (omega arith, omega arith)

pub shape_of-cells : goal.shape_of-cells
shape_of-cells c = ap length c.set_cells.ensures ∙ length_celled _ _ _ _ _

pub returns : goal.returns
returns c =
    entered_part _ _ _ _ _ c.max-a.result c.min-e.result c.if-e-a.false (omega arith) (omega arith) (λ h. omega arith) (omega arith) (omega arith)
    (λ h. omega arith) c.set_cells.ensures
