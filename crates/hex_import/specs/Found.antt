-- Base and length of the bytes, found in a text.
-- Assumes nothing.
use Rattle.std.specs.Prelude.{ℕ, ◌+◌, ◌*◌, ◌≤◌, List, Option, MatchOption, ◌≡◌}
use Rattle.hex_text.specs.Sizes.{text_length}
use Rattle.hex_judge.specs.Stands.{byte_at}

-- the upper 16 bits of the first record, the lower of the second
unfoldable pub base_of : List ℕ → ℕ
base_of text = (byte_at text 9 * 256 + byte_at text 11) * 65536 + (byte_at text 19 * 256 + byte_at text 21)

-- n bytes at this base have a text of this size
pub record Has (size base n : ℕ) : Type 0 where
  pub least : 72 ≤ n
  pub most : n ≤ 16777216
  pub is : size ≡ text_length base n

-- r bytes at this base have a text of this size, or no number of bytes has
abbrev pub LengthOf : ℕ → ℕ → Option ℕ → Type 0
LengthOf size base r = MatchOption r ((m : ℕ) → Has size base m → ⊥) (Has size base)
