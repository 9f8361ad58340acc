-- Which byte of an image is a sheet's.
-- Assumes nothing.
use Rattle.std.specs.Prelude.{List, ℕ, ◌+◌, ◌≤◌, ◌<◌}
use Rattle.answers.specs.declared.Reading.{Reading}
use Rattle.sheet.specs.Sheet.{count, offset, size}

-- the byte at k lies in an entry of the sheet
abbrev pub Within : Reading → List ℕ → ℕ → Type 0
Within r s k = (i : ℕ) × (i < count s) × (r.c + offset s i ≤ k) × (k < r.c + offset s i + size s i)
