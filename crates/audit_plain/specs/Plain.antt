-- Request #109: differences listed as strays, each its position and 2^24.
-- Assumes nothing.
use Rattle.std.specs.Prelude.{ℕ, ◌+◌, List, [], ◌∷◌}

unfoldable pub strayed : List ℕ → List ℕ
strayed [] = []
strayed (k ∷ ks) = (k + 16777216) ∷ strayed ks
