-- The library's version, for C: 0.15.0.
-- Assumes nothing.
use Rattle.std.specs.Prelude.{ℕ, ◌+◌, ◌*◌, ◌≡◌}

-- its three numbers in one word, eight bits for each but the first
abbrev pub in_one_word : ℕ → ℕ → ℕ → ℕ
in_one_word major minor patch = 65536 * major + 256 * minor + patch

-- `pajurenda_version`
abbrev pub VersionCall : ℕ → Type 0
VersionCall r = r ≡ in_one_word 0 15 0
