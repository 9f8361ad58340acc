-- A window of cells: cell j is what is set at the position base + j.
-- Assumes nothing.
use Rattle.std.specs.Prelude.{ℕ, zero, suc, ◌+◌, ◌-◌, ◌≤◌, ◌<◌, List, ◌≡◌, length, get_or, set}
use Rattle.sheet.specs.declared.Entry.{Entry}
use Rattle.fold_pile.specs.Pile.{sheets, Piled}
use Rattle.fold_cells.specs.SetAt.{over}

-- one more than the highest position that can be set, which is 2^32 - 2 + 65,535: every run has ended there
abbrev pub last : ℕ
last = 4295032831

-- a pile that passes 15 and 16
abbrev pub Good : List ℕ → Type 0
Good p = Piled p 0 (sheets p)

-- nothing is set from `from` up to r
pub record Unset (f : ℕ → ℕ) (from r : ℕ) : Type 0 where
  pub up : from ≤ r
  pub none : (k : ℕ) → from ≤ k → k < r → f k ≡ 0

-- the n cells from `at` on, set to the bytes of s from `from` on
unfoldable pub celled : List ℕ → ℕ → List ℕ → ℕ → ℕ → List ℕ
celled xs at s from zero = xs
celled xs at s from (suc n) = set (celled xs at s from n) (at + n) (suc (get_or s (from + n) 0))

-- an entry has a byte for k
abbrev pub Reaches : Entry → ℕ → Type 0
Reaches w k = (w.offset ≤ k) × (k < w.offset + w.size)

-- the cells after an entry of s
pub record Entered (xs ys : List ℕ) (base : ℕ) (s : List ℕ) (w : Entry) : Type 0 where
  pub long : length ys ≡ length xs
  pub inside : (j : ℕ) → j < length xs → Reaches w (base + j) → get_or ys j 0 ≡ suc (get_or s (w.position + (base + j - w.offset)) 0)
  pub beside : (j : ℕ) → j < length xs → (Reaches w (base + j) → ⊥) → get_or ys j 0 ≡ get_or xs j 0

-- the cells after what f sets
pub record Over (xs ys : List ℕ) (base : ℕ) (f : ℕ → ℕ) : Type 0 where
  pub long : length ys ≡ length xs
  pub cell : (j : ℕ) → j < length xs → get_or ys j 0 ≡ over (f (base + j)) (get_or xs j 0)

-- each cell is what f has at its position
pub record Shows (ys : List ℕ) (base : ℕ) (f : ℕ → ℕ) : Type 0 where
  pub cell : (j : ℕ) → j < length ys → get_or ys j 0 ≡ f (base + j)

-- each byte is one, no run starts at 2^32 or above, and none reaches `last`
pub record Bounded (f : ℕ → ℕ) : Type 0 where
  pub small : (k : ℕ) → f k ≤ 256
  pub high : (k : ℕ) → 4295032830 ≤ k → f k ≡ 0
  pub back : (k : ℕ) → 4294967295 ≤ k → f k ≡ 0 → f (suc k) ≡ 0
