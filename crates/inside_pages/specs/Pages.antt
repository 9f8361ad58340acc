-- Request #107: where a page of a module lies, so that what starts in it is found by one sum.
-- Assumes nothing.
use Rattle.std.specs.Prelude.{ℕ, ◌+◌, ◌≤◌, ◌<◌, List, ◌≡◌}
use Rattle.facts.specs.Fact.{Fact, ◌≤?◌, ◌and◌, Holds}
use Rattle.inside_rows.specs.declared.Module.{Module}
use Rattle.inside_rows.specs.declared.Row.{Row}
use Rattle.inside_rows.specs.Rows.{row_at}
use Rattle.inside_places.specs.Places.{found}
use Rattle.inside_pages.specs.declared.Page.{Page}

-- this section's data can hold a byte of the page, which has 4096
abbrev pub reaches : Row → ℕ → Fact
reaches w page = page + 1 ≤? w.va + w.raw and w.va + 1 ≤? page + 4096

-- i is the first section header whose data can, or their count
pub record FirstRow (xs : List ℕ) (m : Module) (page i : ℕ) : Type 0 where
  pub clear : (j : ℕ) → j < i → Holds (reaches (row_at xs m.table j) page) → ⊥
  pub here : i < m.rows → Holds (reaches (row_at xs m.table i) page)

-- what lies in the room of q, from its floor on, is found by adding its offset
pub record Paged (xs : List ℕ) (m : Module) (page : ℕ) (q : Page) : Type 0 where
  pub is : q.page ≡ page
  pub within : q.at + q.room ≤ m.hi
  pub finds : (o k : ℕ) → o < 4096 → q.floor ≤ o → 0 < k → o + k ≤ q.room → (found xs m (page + o) k).at ≡ q.at + o
