-- Which bytes the section headers are read from.
-- Assumes nothing.
use Rattle.std.specs.Prelude.{ℕ, ◌+◌, ◌*◌, ◌<◌, List, ◌≡◌}
use Rattle.std.proofs.Common.{arith}
use Rattle.facts.specs.Fact.{Holds}
use Rattle.words.specs.Le.{Alike}
use Rattle.words.specs.LeLaws.{le_in}
use Rattle.inside_rows.specs.declared.Module.{Module}
use Rattle.inside_rows.specs.Rows.{row_at, rows_fit}

module _ (a b : List ℕ) (m : Module) (rows : Alike a b m.table (40 * m.rows)) where
  pub row_cong : (i : ℕ) → i < m.rows → row_at a m.table i ≡ row_at b m.table i
  unfolding row_at
  row_cong i h =
      rw (
        le_in rows 4 (m.table + 40 * i + 12) (omega arith) (omega arith),
        le_in rows 4 (m.table + 40 * i + 16) (omega arith) (omega arith),
        le_in rows 4 (m.table + 40 * i + 20) (omega arith) (omega arith),
      )

  pub rows_fit_cong : Holds (rows_fit a m) → Holds (rows_fit b m)
  rows_fit_cong fit i h = rw (row_cong i h) at (fit i h)
