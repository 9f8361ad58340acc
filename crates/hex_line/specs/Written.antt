-- What it is to write bytes in digits into a lent buffer.
-- Assumes nothing.
use Rattle.std.specs.Prelude.{ℕ, List, ◌≡◌}
use Rattle.std.proofs.lemmas.List.Edits.{sets}
use Rattle.hex_text.specs.Hex.{pairs, total}

-- the buffer held l and holds m: from `at` on the digits of these bytes; r is their sum
pub record WrotePairs (l m : List ℕ) (at : ℕ) (bs : List ℕ) (r : ℕ) : Type 0 where
  pub bytes : m ≡ sets l at (pairs bs)
  pub sum : r ≡ total bs
