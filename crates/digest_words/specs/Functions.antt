-- FIPS 180-4, sections 2.2.2, 3.2 and 4.1.2: operations and functions on words. A word is a number below 2 ^ 32; `bit_and`, `bit_or` and
-- `bit_xor` are the logic's own, digit by digit.
-- Assumes nothing.
use Rattle.std.specs.Prelude.{ℕ, ◌-◌, ◌*◌, ◌/◌, ◌%◌, ◌^◌}
use Rattle.std.specs.Int.Bits.{bit_and, bit_or, bit_xor}

-- every digit the other
abbrev pub complement : ℕ → ℕ
complement x = 2 ^ 32 - 1 - x

-- n places to the right: what leaves at the low end is gone, or comes back at the high end
abbrev pub SHR : ℕ → ℕ → ℕ
SHR n x = x / 2 ^ n

abbrev pub ROTR : ℕ → ℕ → ℕ
ROTR n x = bit_or (x / 2 ^ n) (x * 2 ^ (32 - n) % 2 ^ 32)

abbrev pub three : ℕ → ℕ → ℕ → ℕ
three x y z = bit_xor (bit_xor x y) z

-- (4.2) to (4.7)
unfoldable pub Ch : ℕ → ℕ → ℕ → ℕ
Ch x y z = bit_xor (bit_and x y) (bit_and (complement x) z)

unfoldable pub Maj : ℕ → ℕ → ℕ → ℕ
Maj x y z = three (bit_and x y) (bit_and x z) (bit_and y z)

unfoldable pub Σ₀ : ℕ → ℕ
Σ₀ x = three (ROTR 2 x) (ROTR 13 x) (ROTR 22 x)

unfoldable pub Σ₁ : ℕ → ℕ
Σ₁ x = three (ROTR 6 x) (ROTR 11 x) (ROTR 25 x)

unfoldable pub σ₀ : ℕ → ℕ
σ₀ x = three (ROTR 7 x) (ROTR 18 x) (SHR 3 x)

unfoldable pub σ₁ : ℕ → ℕ
σ₁ x = three (ROTR 17 x) (ROTR 19 x) (SHR 10 x)
