-- Document 01, "The release sheet": what a sheet sets at an offset k of the region. 0 is nothing, and b + 1 the byte b.
-- Assumes nothing.
use Rattle.std.specs.Prelude.{ℕ, zero, suc, ◌+◌, ◌-◌, cond, List, get_or}
use Rattle.facts.specs.Fact.{Fact, test, ◌≤?◌, ◌and◌}
use Rattle.sheet.specs.Sheet.{count, offset, size, position}

-- entry i has a byte for k
abbrev pub covers : List ℕ → ℕ → ℕ → Fact
covers s i k = offset s i ≤? k and suc k ≤? offset s i + size s i

-- by the first n entries, a later one going before an earlier
unfoldable pub byte_by : List ℕ → ℕ → ℕ → ℕ
byte_by s zero k = 0
byte_by s (suc i) k = cond (test (covers s i k)) (suc (get_or s (position s i + (k - offset s i)) 0)) (byte_by s i k)

-- by all of them
unfoldable pub byte_at : List ℕ → ℕ → ℕ
byte_at s k = byte_by s (count s) k

-- the byte that stands where `old` stood, once this is set
abbrev pub laid : ℕ → ℕ → ℕ
laid zero old = old
laid (suc b) old = b
