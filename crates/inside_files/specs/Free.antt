-- Bytes that are all 0xFF.
-- Assumes nothing.
use Rattle.std.specs.Prelude.{ℕ, ◌+◌, ◌<◌, List, ◌≡◌, get_or}

-- the n bytes at f
abbrev pub Full : List ℕ → ℕ → ℕ → Type 0
Full xs f n = (k : ℕ) → k < n → get_or xs (f + k) 0 ≡ 255
