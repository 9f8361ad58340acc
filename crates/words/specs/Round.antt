-- Document 01: rounding up to a multiple of 8 or 4.
-- Assumes nothing.
use Rattle.std.specs.Prelude.{ℕ, ◌+◌, ◌*◌, ◌/◌}

abbrev pub round8 : ℕ → ℕ
round8 n = (n + 7) / 8 * 8

abbrev pub round4 : ℕ → ℕ
round4 n = (n + 3) / 4 * 4
