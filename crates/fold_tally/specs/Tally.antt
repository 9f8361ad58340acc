-- Document 02, #114: the runs of what is set, and their bytes, counted position by position. f is what is set at each position: 0 is nothing,
-- and b + 1 the byte b. Assumes nothing.
use Rattle.std.specs.Prelude.{ℕ, zero, suc, ◌+◌, ◌≤◌, ◌<◌, List, ◌≡◌, length, get_or}
use Rattle.fold_cells.specs.Cells.{last}
use Rattle.fold_tally.specs.declared.Tally.{Tally}

-- 1 where a run is open
abbrev pub ended : ℕ → ℕ
ended zero = 0
ended (suc n) = 1

-- one position more: where nothing is set an open run has ended, and a byte makes the run longer
abbrev pub stepped : ℕ → Tally → Tally
stepped zero t = record { run = 0; runs = t.runs + ended t.run; bytes = t.bytes }
stepped (suc b) t = record { run = t.run + 1; runs = t.runs; bytes = t.bytes + 1 }

-- before position k: how long the run is that goes up to it, how many have ended, and how many positions are set
unfoldable pub tally_to : (ℕ → ℕ) → ℕ → Tally
tally_to f zero = record { run = 0; runs = 0; bytes = 0 }
tally_to f (suc k) = stepped (f k) (tally_to f k)

-- of all positions
unfoldable pub tally_of : (ℕ → ℕ) → Tally
tally_of f = tally_to f last

-- the same through i cells
unfoldable pub through : List ℕ → ℕ → Tally → Tally
through ys zero t = t
through ys (suc i) t = stepped (get_or ys i 0) (through ys i t)

-- numbers that are far from any end
pub record Small (t : Tally) (n : ℕ) : Type 0 where
  pub run : t.run ≤ n
  pub runs : t.runs ≤ n
  pub bytes : t.bytes ≤ n

-- from `at` on nothing is set up to `base`
abbrev pub Gapped : ℕ → ℕ → Tally → Tally → Type 0
Gapped at base t r = (at < base → r ≡ stepped 0 t) × (base ≤ at → r ≡ t)

-- r is the count, or what was counted before there were too many
pub record Counted (f : ℕ → ℕ) (r : Tally) : Type 0 where
  pub runs : r.runs ≤ (tally_of f).runs
  pub bytes : r.bytes ≤ (tally_of f).bytes
  pub exact : r.runs ≤ 256 → r.bytes ≤ 65535 → r ≡ tally_of f

-- nothing is set in the cells from a up to b
abbrev pub Blank : List ℕ → ℕ → ℕ → Type 0
Blank ys a b = (j : ℕ) → a ≤ j → j < b → get_or ys j 0 ≡ 0

-- r is a cell from i on, and in none before it anything is set
pub record Skipped (ys : List ℕ) (i r : ℕ) : Type 0 where
  pub on : i ≤ r
  pub within : r < length ys
  pub blank : Blank ys i r
