-- The bytes that a text has, if it is the text of n bytes at a base.
-- Assumes nothing.
use Rattle.std.specs.Prelude.{ℕ, zero, suc, ◌+◌, ◌*◌, ◌/◌, ◌%◌, ◌^◌, ◌≤◌, ◌<◌, cond, List, [], ◌++◌, ◌≡◌, length}
use Rattle.facts.specs.Fact.{test, Holds}
use Rattle.hex_text.specs.Hex.{turns}
use Rattle.hex_text.specs.Sizes.{up_to, text_length, part_length}
use Rattle.hex_judge.specs.Stands.{bytes_at}

-- where the digits of the data from byte i on begin, their part beginning at `at`
unfoldable pub data_at : ℕ → ℕ → ℕ → ℕ
data_at base i at = cond (test (turns base i)) (at + 16 + 9) (at + 9)

-- the bytes of part k
unfoldable pub chunk_at : List ℕ → ℕ → ℕ → ℕ → List ℕ
chunk_at text base n i = bytes_at text (data_at base i (up_to base i)) (part_length n i)

-- those of the first k parts
unfoldable pub decoded : List ℕ → ℕ → ℕ → ℕ → List ℕ
decoded text base n zero = []
decoded text base n (suc k) = decoded text base n k ++ chunk_at text base n (16 * k)

-- all of them
unfoldable pub decoded_all : List ℕ → ℕ → ℕ → List ℕ
decoded_all text base n = decoded text base n ((n + 15) / 16)

-- room for the part of d bytes from byte i on, which begins at `at`, and an address of 32 bits
abbrev pub Reaches : List ℕ → ℕ → ℕ → ℕ → ℕ → Type 0
Reaches text at base i d =
    (at + 12 + 2 * d ≤ length text) × (Holds (turns base i) → at + 28 + 2 * d ≤ length text) × (d ≤ 16) × (base + i < 2 ^ 32)

-- a text of the right length
pub record Sized (text : List ℕ) (base n : ℕ) : Type 0 where
  pub least : 72 ≤ n
  pub most : n ≤ 16777216
  pub even : base % 4096 ≡ 0
  pub ends : base + n ≤ 2 ^ 32
  pub long : length text ≡ text_length base n
