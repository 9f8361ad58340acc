-- FIPS 180-4, sections 5.1.1, 5.3.3 and 6.2.2: a message of whole bytes, padded to whole blocks, and its hash value.
-- Assumes nothing.
use Rattle.std.specs.Prelude.{ℕ, zero, suc, ◌-◌, ◌*◌, ◌/◌, ◌%◌, ◌^◌, List, [], ◌∷◌, ◌++◌, length, replicate}
use Rattle.digest_rounds.specs.declared.Eight.{Eight}
use Rattle.digest_blocks.specs.Blocks.{chained}

-- the number w in k bytes, the highest first
unfoldable pub big : ℕ → ℕ → List ℕ
big zero w = []
big (suc k) w = w / 2 ^ (8 * k) % 256 ∷ big k w

-- how many bytes of zeros a message of n bytes gets: as few as bring n, the byte 128 and them to 56 above a multiple of 64
abbrev pub zeros : ℕ → ℕ
zeros n = (119 - n % 64) % 64

-- what follows a message of n bytes: a digit 1 and zeros, and the message's length in bits, in 8 bytes
abbrev pub padding : ℕ → List ℕ
padding n = 128 ∷ (replicate (zeros n) 0 ++ big 8 (8 * n))

unfoldable pub padded : List ℕ → List ℕ
padded xs = xs ++ padding (length xs)

-- the hash value to begin with
abbrev pub H₀ : Eight
H₀ =
    record {
      a = 0x6a09e667;
      b = 0xbb67ae85;
      c = 0x3c6ef372;
      d = 0xa54ff53a;
      e = 0x510e527f;
      f = 0x9b05688c;
      g = 0x1f83d9ab;
      h = 0x5be0cd19;
    }

-- the hash value of a message
unfoldable pub hashed : List ℕ → Eight
hashed xs = chained H₀ (padded xs) (length (padded xs) / 64)
