-- Where two lists of bytes agree, and where they first differ.
-- Assumes nothing.
use Rattle.std.specs.Prelude.{ℕ, ◌≤◌, ◌<◌, List, Option, None, Some, ◌≡◌, get_or}

-- a and b agree from `from` on up to k
abbrev pub SameBytes : List ℕ → List ℕ → ℕ → ℕ → Type 0
SameBytes a b from k = (i : ℕ) → from ≤ i → i < k → get_or b i 0 ≡ get_or a i 0

-- k is the first position from `from` on and below `to` at which the two differ, or `to`
pub record Until (a b : List ℕ) (from to k : ℕ) : Type 0 where
  pub onward : from ≤ k
  pub most : k ≤ to
  pub clear : SameBytes a b from k
  pub found : k < to → get_or b k 0 ≡ get_or a k 0 → ⊥

-- the first position from `from` on and below `to` at which the two differ, if there is one
abbrev pub Differs : List ℕ → List ℕ → ℕ → ℕ → Option ℕ → Type 0
Differs a b from to None = SameBytes a b from to
Differs a b from to (Some k) = Until a b from to k × (k < to)
