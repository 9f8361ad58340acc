-- Ranges as the rows of a table.
-- Assumes nothing.
use Rattle.std.specs.Prelude.{ℕ, zero, suc, ◌<◌, List, [], ◌∷◌, ◌++◌, length, get_or}
use Rattle.std.proofs.Common.{arith}
use Rattle.facts.specs.Fact.{Holds}
use Rattle.map_ranges.specs.declared.Range.{Range}
use Rattle.map_ranges.specs.Ranges.{range, ends, all_end}

-- row i
abbrev pub row_at : List Range → ℕ → Range
row_at rows i = get_or rows i (range 0 0 0)

-- each row of a table whose ranges all end does
pub all_append : (a b : List Range) → Holds (all_end a) → Holds (all_end b) → Holds (all_end (a ++ b))
all_append [] b ha hb = hb
all_append (r ∷ a) b ha hb = (ha.0, all_append a b ha.1 hb)

pub all_left : (a b : List Range) → Holds (all_end (a ++ b)) → Holds (all_end a)
all_left [] b h = omega arith
all_left (r ∷ a) b h = (h.0, all_left a b h.1)

pub all_right : (a b : List Range) → Holds (all_end (a ++ b)) → Holds (all_end b)
all_right [] b h = h
all_right (r ∷ a) b h = all_right a b h.1

pub row_ends : (rows : List Range) (i : ℕ) → Holds (all_end rows) → i < length rows → Holds (ends (row_at rows i))
row_ends [] i h l = absurd (omega arith)
row_ends (r ∷ rows) zero h l = h.0
row_ends (r ∷ rows) (suc i) h l = row_ends rows i h.1 (omega arith)
