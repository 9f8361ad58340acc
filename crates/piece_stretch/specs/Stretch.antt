-- A list of bytes that may start at a later position.
-- Assumes nothing.
use Rattle.std.specs.Prelude.{ℕ, zero, suc, List, ◌∷◌}

-- a list whose first element stands at position o
unfoldable pub after : ℕ → List ℕ → List ℕ
after zero a = a
after (suc o) a = 0 ∷ after o a
