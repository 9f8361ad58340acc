-- Document 02, #114: sheets released one after another, each to the same base by one owner of the list o.
-- Assumes nothing.
use Rattle.std.specs.Prelude.{ℕ, ◌≤◌, List, [], ◌∷◌, ◌≡◌}
use Rattle.release.specs.Release.{releasing, released_image}

-- the image afterwards
unfoldable pub released_each : List ℕ → List (List ℕ) → ℕ → List ℕ → ℕ → List ℕ
released_each xs [] base o owner = xs
released_each xs (s ∷ ss) base o owner = released_each (released_image xs s base o owner) ss base o owner

-- each of them is accepted
abbrev pub EachAccepted : List ℕ → List (List ℕ) → ℕ → List ℕ → ℕ → Type 0
EachAccepted xs [] base o owner = 1 ≤ 1
EachAccepted xs (s ∷ ss) base o owner =
    ((releasing xs s base o owner).number ≡ 0) × EachAccepted (released_image xs s base o owner) ss base o owner
