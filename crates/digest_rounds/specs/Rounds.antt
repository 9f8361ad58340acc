-- FIPS 180-4, sections 4.2.2 and 6.2.2 (steps 3 and 4): the constants, a round, the rounds, and the sum at their end. Sums are taken
-- modulo 2 ^ 32.
-- Assumes nothing.
use Rattle.std.specs.Prelude.{ℕ, zero, suc, ◌+◌, ◌%◌, ◌^◌, List, [], ◌∷◌, get_or}
use Rattle.digest_words.specs.Functions.{Ch, Maj, Σ₀, Σ₁}
use Rattle.digest_rounds.specs.declared.Eight.{Eight}

-- the 64 constants
unfoldable pub K : List ℕ
K =
    0x428a2f98 ∷ 0x71374491 ∷ 0xb5c0fbcf ∷ 0xe9b5dba5 ∷ 0x3956c25b ∷ 0x59f111f1 ∷ 0x923f82a4 ∷ 0xab1c5ed5 ∷
    0xd807aa98 ∷ 0x12835b01 ∷ 0x243185be ∷ 0x550c7dc3 ∷ 0x72be5d74 ∷ 0x80deb1fe ∷ 0x9bdc06a7 ∷ 0xc19bf174 ∷
    0xe49b69c1 ∷ 0xefbe4786 ∷ 0x0fc19dc6 ∷ 0x240ca1cc ∷ 0x2de92c6f ∷ 0x4a7484aa ∷ 0x5cb0a9dc ∷ 0x76f988da ∷
    0x983e5152 ∷ 0xa831c66d ∷ 0xb00327c8 ∷ 0xbf597fc7 ∷ 0xc6e00bf3 ∷ 0xd5a79147 ∷ 0x06ca6351 ∷ 0x14292967 ∷
    0x27b70a85 ∷ 0x2e1b2138 ∷ 0x4d2c6dfc ∷ 0x53380d13 ∷ 0x650a7354 ∷ 0x766a0abb ∷ 0x81c2c92e ∷ 0x92722c85 ∷
    0xa2bfe8a1 ∷ 0xa81a664b ∷ 0xc24b8b70 ∷ 0xc76c51a3 ∷ 0xd192e819 ∷ 0xd6990624 ∷ 0xf40e3585 ∷ 0x106aa070 ∷
    0x19a4c116 ∷ 0x1e376c08 ∷ 0x2748774c ∷ 0x34b0bcb5 ∷ 0x391c0cb3 ∷ 0x4ed8aa4a ∷ 0x5b9cca4f ∷ 0x682e6ff3 ∷
    0x748f82ee ∷ 0x78a5636f ∷ 0x84c87814 ∷ 0x8cc70208 ∷ 0x90befffa ∷ 0xa4506ceb ∷ 0xbef9a3f7 ∷ 0xc67178f2 ∷ []

-- the two sums of a round
unfoldable pub T₁ : Eight → ℕ → ℕ → ℕ
T₁ s k w = (s.h + Σ₁ s.e + Ch s.e s.f s.g + k + w) % 2 ^ 32

unfoldable pub T₂ : Eight → ℕ
T₂ s = (Σ₀ s.a + Maj s.a s.b s.c) % 2 ^ 32

-- the working variables after a round with constant k and word w
unfoldable pub turned : Eight → ℕ → ℕ → Eight
turned s k w =
    record {
      a = (T₁ s k w + T₂ s) % 2 ^ 32;
      b = s.a;
      c = s.b;
      d = s.c;
      e = (s.d + T₁ s k w) % 2 ^ 32;
      f = s.e;
      g = s.f;
      h = s.g;
    }

-- after t rounds with the constants ks and the words ws
unfoldable pub rounds : List ℕ → Eight → List ℕ → ℕ → Eight
rounds ks s ws zero = s
rounds ks s ws (suc t) = turned (rounds ks s ws t) (get_or ks t 0) (get_or ws t 0)

-- word by word, the sum
unfoldable pub plus : Eight → Eight → Eight
plus x y =
    record {
      a = (x.a + y.a) % 2 ^ 32;
      b = (x.b + y.b) % 2 ^ 32;
      c = (x.c + y.c) % 2 ^ 32;
      d = (x.d + y.d) % 2 ^ 32;
      e = (x.e + y.e) % 2 ^ 32;
      f = (x.f + y.f) % 2 ^ 32;
      g = (x.g + y.g) % 2 ^ 32;
      h = (x.h + y.h) % 2 ^ 32;
    }
