-- Document 01, "Reading an image", rules 10 and 11, in its letters: c, z and E. Each rule is the check that is passed.
-- Assumes nothing.
use Rattle.std.specs.Prelude.{ℕ, ◌+◌, ◌-◌, List, [], ◌∷◌, length, get_or}
use Rattle.facts.specs.Fact.{Fact, ◌≤?◌, ◌≡?◌, ◌and◌}

-- 10 CONFIG: a size of 32 to 65,536 bytes, after the patch table, inside the image
abbrev pub region_fits : List ℕ → ℕ → ℕ → ℕ → Fact
region_fits xs E c z = 32 ≤? z and z ≤? 65536 and E ≤? c and c + z ≤? length xs

-- T, M, S, I
abbrev pub letters : List ℕ
letters = 84 ∷ 77 ∷ 83 ∷ 73 ∷ []

-- the letter of component 1, 2, 3 or 4
abbrev pub letter : ℕ → ℕ
letter component = get_or letters (component - 1) 0

-- 11 UPD: an underscore at 6 in the region, and at 7 the letter of the component
abbrev pub marks_fit : List ℕ → ℕ → ℕ → Fact
marks_fit xs c component = get_or xs (c + 6) 0 ≡? 95 and get_or xs (c + 7) 0 ≡? letter component
