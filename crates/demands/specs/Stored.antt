-- How a list holds the entries of an audit: one in a 32-bit place, or one in four bytes.
-- Assumes nothing.
use Rattle.std.specs.Prelude.{ℕ, ◌*◌, ◌/◌, List, length, get_or}
use Rattle.words.specs.Le.{le}

pub record Store : Type 0 where
  -- how many elements of the list an entry takes
  pub size : ℕ
  -- how many entries go into a list
  pub room : List ℕ → ℕ
  -- entry i of a list
  pub entry : List ℕ → ℕ → ℕ

abbrev pub in_places : Store
in_places = record { size = 1; room = λ l. length l; entry = λ l i. get_or l i 0 }

-- bytes after the last whole place hold none
abbrev pub in_bytes : Store
in_bytes = record { size = 4; room = λ l. length l / 4; entry = λ l i. le 4 l (4 * i) }
