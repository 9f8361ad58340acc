-- A number's own bytes as a list, the least first: what images and sheets are written out of in examples.
-- Assumes nothing.
use Rattle.std.specs.Prelude.{ℕ, zero, suc, List, [], ◌∷◌, ◌++◌}
use Rattle.words.specs.Put.{digit}

-- the k lowest bytes of w
unfoldable pub number : ℕ → ℕ → List ℕ
number zero w = []
number (suc k) w = number k w ++ (digit w k ∷ [])

-- k zeros
unfoldable pub zeros : ℕ → List ℕ
zeros zero = []
zeros (suc k) = 0 ∷ zeros k
