-- What the walks that write ask for and promise.
-- Assumes nothing.
use Rattle.std.specs.Prelude.{ℕ, ◌+◌, ◌≤◌, ◌<◌, List, ◌≡◌, length, get_or}
use Rattle.fold_tally.specs.declared.Tally.{Tally}
use Rattle.fold_tally.specs.Tally.{stepped, through, Small}
use Rattle.fold_sheet.specs.Placing.{placed, Safe}

-- every cell of a window can be written
pub record AllSafe (n m base : ℕ) (ys : List ℕ) (t : Tally) : Type 0 where
  pub safe : (i : ℕ) → i < length ys → Safe n m (base + i) (get_or ys i 0) (through ys i t)
  pub small : Small t 1099511627776
  pub low : base ≤ 4295032831
  pub long : length ys ≤ 65536

-- from `at` on nothing is set up to `base`: the first position ends a run that is open
pub record Gap (m at base : ℕ) (t : Tally) (xs : List ℕ) (r : Tally) (ys : List ℕ) : Type 0 where
  pub more : at < base → ys ≡ placed m at t 0 t.run xs
  pub count : at < base → r ≡ stepped 0 t
  pub same : base ≤ at → ys ≡ xs
  pub still : base ≤ at → r ≡ t
