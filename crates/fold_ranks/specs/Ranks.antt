-- Runs in order, and the bytes before each. f is what is set at each position, 0 where nothing is.
-- Assumes nothing.
use Rattle.std.specs.Prelude.{ℕ, zero, suc, ◌+◌, ◌≤◌, ◌<◌, List, ◌≡◌, get_or}
use Rattle.fold_words.specs.Words.{start, size, Sound}
use Rattle.fold_runs.specs.Runs.{Out}

-- where run i starts, how long it is, where it ends
abbrev pub starts : List ℕ → ℕ → ℕ
starts xs i = start (get_or xs i 0)

abbrev pub sizes : List ℕ → ℕ → ℕ
sizes xs i = size (get_or xs i 0)

abbrev pub ends : List ℕ → ℕ → ℕ
ends xs i = starts xs i + sizes xs i

-- the first n runs ascend, none empty, with something unset between them, and start at `top` or below; none ends above 2^32 - 1 + 65,535
pub record Rising (xs : List ℕ) (n top : ℕ) : Type 0 where
  pub apart : (i j : ℕ) → i < j → j < n → ends xs i < starts xs j
  pub some : (i : ℕ) → i < n → 1 ≤ sizes xs i
  pub low : (i : ℕ) → i < n → starts xs i ≤ top
  pub high : (i : ℕ) → i < n → ends xs i < 4295032831

-- the bytes of the first i runs
unfoldable pub sum_to : List ℕ → ℕ → ℕ
sum_to xs zero = 0
sum_to xs (suc i) = sum_to xs i + sizes xs i

-- rs has them
pub record Summed (xs : List ℕ) (n : ℕ) (rs : List ℕ) : Type 0 where
  pub each : (i : ℕ) → i < n → get_or rs i 0 ≡ sum_to xs i

-- the first n runs are what is set below `top`, and no more
pub record Whole (f : ℕ → ℕ) (xs : List ℕ) (n top : ℕ) : Type 0 where
  pub sound : Sound f xs
  pub none : (k : ℕ) → Out xs n top k → f k ≡ 0
  pub rising : Rising xs n top
