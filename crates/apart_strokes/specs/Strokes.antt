-- Marks of bytes: a stretch a..e is marked in one go or not at all.
-- Assumes nothing.
use Rattle.std.specs.Prelude.{ℕ, ◌≤◌, ◌<◌, max, Bool, true, false, List, ◌≡◌, length, get_or, replicate}
use Rattle.std.specs.List.{fold}

-- one of a..e is marked past the limit
pub record Struck (ms : List ℕ) (a e limit : ℕ) : Type 0 where
  pub at : ℕ
  pub low : a ≤ at
  pub high : at < e
  pub over : limit < get_or ms at 0

-- a..j is marked so far
pub record Painting (ms ns : List ℕ) (a j limit mark : ℕ) : Type 0 where
  pub up : a ≤ j
  pub long : length ns ≡ length ms
  pub met : (i : ℕ) → a ≤ i → i < j → get_or ms i 0 ≤ limit
  pub done : (i : ℕ) → a ≤ i → i < j → get_or ns i 0 ≡ mark
  pub below : (i : ℕ) → i < a → get_or ns i 0 ≡ get_or ms i 0
  pub above : (i : ℕ) → j ≤ i → get_or ns i 0 ≡ get_or ms i 0

-- r: none of them is past the limit
pub record Within (ms : List ℕ) (limit : ℕ) (r : Bool) : Type 0 where
  pub met : r ≡ true → fold max 0 ms ≤ limit
  pub bad : r ≡ false → limit < fold max 0 ms

-- r: all of the stretch was within the limit, and is marked
pub record Stroked (ms ns : List ℕ) (limit mark : ℕ) (r : Bool) : Type 0 where
  pub long : length ns ≡ length ms
  pub met : r ≡ true → fold max 0 ms ≤ limit
  pub done : r ≡ true → ns ≡ replicate (length ms) mark
  pub bad : r ≡ false → limit < fold max 0 ms

-- r: all of a..e was within the limit, and is marked
pub record Painted (ms ns : List ℕ) (a e limit mark : ℕ) (r : Bool) : Type 0 where
  pub long : length ns ≡ length ms
  pub all : r ≡ true → Painting ms ns a e limit mark
  pub bad : r ≡ false → Struck ms a e limit
