use Rattle.inside_rows.specs.Rows.{row_at}
use Rattle.inside_pages.specs.Pages.{reaches}
use Rattle.facts.specs.Fact.{Holds}
use Prim.Native.Nat.{ℕ, ◌≤◌, ◌<◌}
use Rattle.inside_pages.proofs.first_row.Given as goal

abbrev pub invariant-loop-i : goal.invariant-loop-i
invariant-loop-i l = (l.i ≤ l.m.rows) × ((j : ℕ) → j < l.i → Holds (reaches (row_at l.image l.m.table j) l.page) → ⊥)
