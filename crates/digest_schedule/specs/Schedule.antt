-- FIPS 180-4, sections 5.2.1 and 6.2.2 (step 1): the 16 words of a block of 64 bytes, and the message schedule.
-- Assumes nothing.
use Rattle.std.specs.Prelude.{ℕ, zero, suc, ◌+◌, ◌-◌, ◌*◌, ◌%◌, ◌^◌, List, get_or, set, replicate}
use Rattle.digest_words.specs.Functions.{σ₀, σ₁}

-- the word of the four bytes at `at`, the highest first
unfoldable pub word : List ℕ → ℕ → ℕ
word xs at = get_or xs at 0 * 2 ^ 24 + get_or xs (at + 1) 0 * 2 ^ 16 + get_or xs (at + 2) 0 * 2 ^ 8 + get_or xs (at + 3) 0

-- the first t of 64 places hold the first words of the block at `at`
unfoldable pub loaded : List ℕ → List ℕ → ℕ → ℕ → List ℕ
loaded ws xs at zero = ws
loaded ws xs at (suc t) = set (loaded ws xs at t) t (word xs (at + 4 * t))

-- the word of place t, from 16 on, of those before it
unfoldable pub next : List ℕ → ℕ → ℕ
next ws t = (σ₁ (get_or ws (t - 2) 0) + get_or ws (t - 7) 0 + σ₀ (get_or ws (t - 15) 0) + get_or ws (t - 16) 0) % 2 ^ 32

abbrev pub grown : List ℕ → ℕ → List ℕ
grown ws t = set ws t (next ws t)

-- i places more, one after the other
unfoldable pub expanded : List ℕ → ℕ → List ℕ
expanded ws zero = ws
expanded ws (suc i) = grown (expanded ws i) (i + 16)

-- the 64 words of the block at `at`
unfoldable pub scheduled : List ℕ → ℕ → List ℕ
scheduled xs at = expanded (loaded (replicate 64 0) xs at 16) 48
