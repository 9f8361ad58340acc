use Rattle.inside_rows.specs.Rows.{row_at, data_fits}
use Rattle.facts.specs.Fact.{Holds}
use Prim.Native.Nat.{ℕ, ◌≤◌, ◌<◌}
use Rattle.inside_rows.proofs.rows_fit.Given as goal

abbrev pub invariant-loop-i : goal.invariant-loop-i
invariant-loop-i l = (l.i ≤ l.m.rows) × ((j : ℕ) → j < l.i → Holds (data_fits l.m.lo l.m.hi l.m.stripped (row_at l.image l.m.table j)))
