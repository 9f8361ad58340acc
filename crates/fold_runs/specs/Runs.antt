-- What a pile sets, as a list of runs. f is what is set at each position, 0 where nothing is.
-- Assumes nothing.
use Rattle.std.specs.Prelude.{ℕ, ◌+◌, ◌≤◌, ◌<◌, List, ◌≡◌, length, get_or}
use Rattle.sheet.specs.declared.Entry.{Entry}
use Rattle.fold_words.specs.Words.{start, size, Filled, Sound}
use Rattle.fold_runs.specs.declared.Gathered.{Gathered}

-- the words and seats are as long as they must be, and so are what is counted of them
pub record Holding (g : Gathered) (xs ss : List ℕ) : Type 0 where
  pub few : g.n ≤ 1024
  pub some : g.runs ≤ g.n
  pub runs : g.runs ≤ 512
  pub met : g.met < 1024
  pub long : length xs ≡ 1024
  pub seats : length ss ≡ 1024

-- e is where the entry ends, or `top` if that is before
pub record Clipped (w : Entry) (top e : ℕ) : Type 0 where
  pub from : w.offset ≤ e
  pub to : e ≤ w.offset + w.size
  pub high : e < w.offset + w.size → top ≡ e

-- run i of the first n has the positions from a up to e
pub record Within (xs : List ℕ) (n i a e : ℕ) : Type 0 where
  pub there : i < n
  pub from : start (get_or xs i 0) ≤ a
  pub to : e ≤ start (get_or xs i 0) + size (get_or xs i 0)

-- the words ys are sound where xs are and all of the entry is set
pub record Takes (xs : List ℕ) (w : Entry) (r : Gathered) (ys ss : List ℕ) : Type 0 where
  pub holding : Holding r ys ss
  pub sound : (f : ℕ → ℕ) → Sound f xs → Filled f w.offset (w.offset + w.size) → Sound f ys

-- the same where all is set that the sheet sets
pub record TakesSheet (xs : List ℕ) (s : ℕ → ℕ) (r : Gathered) (ys ss : List ℕ) : Type 0 where
  pub holding : Holding r ys ss
  pub sound : (f : ℕ → ℕ) → Sound f xs → ((k : ℕ) → (s k ≡ 0 → ⊥) → f k ≡ 0 → ⊥) → Sound f ys

-- a position below `top` in none of the first n runs
pub record Out (xs : List ℕ) (n top k : ℕ) : Type 0 where
  pub below : k < top
  pub none : (i : ℕ) → i < n → start (get_or xs i 0) ≤ k → k < start (get_or xs i 0) + size (get_or xs i 0) → ⊥
