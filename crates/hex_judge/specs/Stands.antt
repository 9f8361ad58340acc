-- What stands in a text: characters at a place, and the bytes that digits stand for.
-- Assumes nothing.
use Rattle.std.specs.Prelude.{ℕ, zero, suc, ◌+◌, ◌*◌, ◌/◌, ◌%◌, ◌≤◌, List, [], ◌∷◌, ◌≡◌, get_or}
use Rattle.facts.specs.Fact.{Fact, ◌≤?◌, ◌≡?◌, ◌and◌, Holds}
use Rattle.hex_text.specs.Hex.{pairs, total}

-- these characters stand in a text from `at` on
abbrev pub stands : List ℕ → ℕ → List ℕ → Fact
stands text at [] = 0 ≤? 0
stands text at (c ∷ cs) = get_or text at 0 ≡? c and stands text (at + 1) cs

-- what a capital hex digit stands for; of any other character some number below 16
abbrev pub value_of : ℕ → ℕ
value_of c = (c % 16 + 9 * (c / 64)) % 16

-- the byte that two digits stand for
abbrev pub byte_at : List ℕ → ℕ → ℕ
byte_at text at = 16 * value_of (get_or text at 0) + value_of (get_or text (at + 1) 0)

-- and d bytes
unfoldable pub bytes_at : List ℕ → ℕ → ℕ → List ℕ
bytes_at text at zero = []
bytes_at text at (suc d) = byte_at text at ∷ bytes_at text (at + 2) d

-- the digits of d bytes stand there, all capital, and r is the sum of the bytes
pub record Summed (text : List ℕ) (at d r : ℕ) : Type 0 where
  pub there : Holds (stands text at (pairs (bytes_at text at d)))
  pub is : r ≡ total (bytes_at text at d)
  pub small : r ≤ 255 * d
