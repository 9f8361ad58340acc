-- Numbers as text: "The base is eight capital hex digits, all else decimal."
-- Assumes nothing.
use Rattle.std.specs.Prelude.{ℕ, zero, suc, ◌+◌, ◌/◌, ◌%◌, cond, List, [], ◌∷◌, ◌++◌}
use Prim.Native.Char.{code}
use Prim.Native.String.{String, [] as nothing, ◌∷◌ as ◌before◌}
use Rattle.facts.specs.Fact.{◌≤?◌, test}

-- a text of plain characters, byte by byte
abbrev pub ascii : String → List ℕ
ascii nothing = []
ascii (c before s) = code c ∷ ascii s

-- the character of a decimal digit, and of a capital hex digit
abbrev pub digit : ℕ → ℕ
digit d = 48 + d

unfoldable pub hex_digit : ℕ → ℕ
hex_digit d = cond (test (d ≤? 9)) (48 + d) (55 + d)

-- the last `fuel` decimal digits of n, the highest first, and none before the first that isn't 0
unfoldable pub digits : ℕ → ℕ → List ℕ
digits zero n = []
digits (suc fuel) n = let more = digits fuel (n / 10) ++ (digit (n % 10) ∷ []) in cond (test (n ≤? 9)) (digit n ∷ []) more

-- the decimal digits of n: no number has more than n + 1
unfoldable pub decimal : ℕ → List ℕ
decimal n = digits (suc n) n

-- the k last hex digits of n, the highest first
unfoldable pub hex_digits : ℕ → ℕ → List ℕ
hex_digits zero n = []
hex_digits (suc k) n = hex_digits k (n / 16) ++ (hex_digit (n % 16) ∷ [])
