-- Document 01: the settings part of the configuration region, c+32..c+z-1, of an image that reads so.
-- Assumes nothing.
use Rattle.std.specs.Prelude.{ℕ, ◌+◌, ◌-◌, ◌≤◌, ◌<◌, ◌⊎◌}
use Rattle.answers.specs.declared.Reading.{Reading}

-- where it starts
abbrev pub settings_at : Reading → ℕ
settings_at r = r.c + 32

-- how many bytes it has
abbrev pub settings_size : Reading → ℕ
settings_size r = r.z - 32

-- position k lies outside it
abbrev pub OutsideSettings : Reading → ℕ → Type 0
OutsideSettings r k = (k < r.c + 32) ⊎ (r.c + r.z ≤ k)
