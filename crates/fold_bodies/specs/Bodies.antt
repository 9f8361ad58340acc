-- The folded sheet by its runs: xs are words, the first n of them runs, and rs the bytes before each. f is what is set at each position: 0 is
-- nothing, and b + 1 the byte b.
-- Assumes nothing.
use Rattle.std.specs.Prelude.{ℕ, zero, suc, ◌+◌, ◌-◌, ◌*◌, ◌≤◌, ◌<◌, Bool, true, false, Option, Some, None, List, ◌⊎◌, ◌≡◌, length, get_or}
use Rattle.sheet.specs.declared.Entry.{Entry}
use Rattle.fold_cells.specs.SetAt.{over}
use Rattle.fold_tally.specs.Tally.{tally_to}
use Rattle.fold_sheet.specs.Placing.{put_entry}
use Rattle.fold_words.specs.Words.{size}
use Rattle.fold_runs.specs.Runs.{Within}
use Rattle.fold_ranks.specs.Ranks.{starts, sizes, sum_to, Whole}

-- n bytes of s from `from` on stand at `to`, and all others stayed
pub record Copied (xs : List ℕ) (to : ℕ) (s : List ℕ) (from n : ℕ) (ys : List ℕ) : Type 0 where
  pub long : length ys ≡ length xs
  pub inside : (j : ℕ) → j < n → get_or ys (to + j) 0 ≡ get_or s (from + j) 0
  pub beside : (j : ℕ) → (j < to) ⊎ (to + n ≤ j) → get_or ys j 0 ≡ get_or xs j 0

-- the runs' bodies lie in a buffer of so many bytes
pub record Rooms (xs : List ℕ) (n : ℕ) (rs : List ℕ) (room : ℕ) : Type 0 where
  pub few : n ≤ 256
  pub words : n ≤ length xs
  pub ranks : n ≤ length rs
  pub total : 16 + 8 * n + sum_to xs n ≤ room
  pub each : (i : ℕ) → i < n → get_or rs i 0 ≡ sum_to xs i
  pub within : (i : ℕ) → i < n → sum_to xs i + sizes xs i ≤ sum_to xs n

-- where an entry's bytes go that lies in run r
abbrev pub place : List ℕ → ℕ → ℕ → ℕ → ℕ
place xs n r offset = 16 + 8 * n + sum_to xs r + (offset - starts xs r)

-- an entry of s
pub record Laid (xs : List ℕ) (n : ℕ) (rs : List ℕ) (w : Entry) (s : List ℕ) (r : ℕ) (os ps : List ℕ) : Type 0 where
  pub long : length ps ≡ length os
  pub rest : (j : ℕ) → 16 + 8 * n + sum_to xs n ≤ j → get_or ps j 0 ≡ get_or os j 0
  pub seat : r < n → Within xs n r w.offset (w.offset + w.size)
  pub copied : r < n → Copied os (place xs n r w.offset) s w.position w.size ps

-- the same by the run that was found; where none was, nothing is written
abbrev pub LaidBy : List ℕ → ℕ → List ℕ → Entry → List ℕ → Option ℕ → List ℕ → List ℕ → Type 0
LaidBy xs n rs w s None os ps = Laid xs n rs w s n os ps
LaidBy xs n rs w s (Some r) os ps = (r < n) × Laid xs n rs w s r os ps

-- what g sets has its byte at its place, wherever f sets something
abbrev pub Stands : ℕ → (ℕ → ℕ) → (ℕ → ℕ) → List ℕ → Type 0
Stands n f g os = (k b : ℕ) → (f k ≡ 0 → ⊥) → g k ≡ suc b → get_or os (16 + 8 * n + (tally_to f k).bytes) 0 ≡ b

-- all that a sheet sets, over what was there
pub record LaidSheet (xs : List ℕ) (n : ℕ) (rs : List ℕ) (s : ℕ → ℕ) (os : List ℕ) (seen : ℕ) (found : Bool) (ps : List ℕ) : Type 0 where
  pub long : length ps ≡ length os
  pub rest : (j : ℕ) → 16 + 8 * n + sum_to xs n ≤ j → get_or ps j 0 ≡ get_or os j 0
  pub met : seen < 1024
  pub stands : found ≡ true → (f : ℕ → ℕ) (top : ℕ) → Whole f xs n top → (old : ℕ → ℕ) → Stands n f old os
      → Stands n f (λ (k : ℕ). over (s k) (old k)) ps

-- the same by how many entries were met, if all were found
abbrev pub LaidSheetBy : List ℕ → ℕ → List ℕ → (ℕ → ℕ) → List ℕ → Option ℕ → List ℕ → Type 0
LaidSheetBy xs n rs s os None ps = LaidSheet xs n rs s os 0 false ps
LaidSheetBy xs n rs s os (Some seen) ps = LaidSheet xs n rs s os seen true ps

-- all that the pile sets
pub record LaidPile (xs : List ℕ) (n : ℕ) (rs : List ℕ) (f : ℕ → ℕ) (os : List ℕ) (found : Bool) (ps : List ℕ) : Type 0 where
  pub long : length ps ≡ length os
  pub rest : (j : ℕ) → 16 + 8 * n + sum_to xs n ≤ j → get_or ps j 0 ≡ get_or os j 0
  pub stands : found ≡ true → (top : ℕ) → Whole f xs n top → Stands n f f ps

-- the entries of the first i runs
unfoldable pub runs_to : List ℕ → List ℕ → ℕ → ℕ → List ℕ → List ℕ
runs_to xs rs n zero os = os
runs_to xs rs n (suc i) os = put_entry (runs_to xs rs n i os) (16 + 8 * i) (starts xs i) (sizes xs i) (16 + 8 * n + get_or rs i 0)
