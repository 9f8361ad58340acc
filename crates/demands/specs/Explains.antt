-- Demand 3: what it is for a legal base and some setting bytes to turn the vendor image into the shipped one.
-- Assumes nothing.
use Rattle.std.specs.Prelude.{ℕ, List, ◌≡◌, length, get_or}
use Rattle.facts.specs.Fact.{Holds}
use Rattle.header.specs.Base.{legal_base}
use Rattle.reading_rules.specs.Reading.{reading2}
use Rattle.reading_rules.specs.Settings.{settings_at, settings_size, OutsideSettings}
use Rattle.move_image.specs.Moving.{moved_image}
use Rattle.sheet_bodies.specs.Set.{joined}

-- this legal base and these setting bytes, c+32..c+z-1, turn xs into ys
pub record Turns (xs ys : List ℕ) (base : ℕ) (part : List ℕ) : Type 0 where
  pub legal : Holds (legal_base (length xs) base)
  pub long : length part ≡ settings_size (reading2 xs)
  pub is : ys ≡ joined (moved_image xs base) (settings_at (reading2 xs)) (settings_size (reading2 xs)) part

-- the same byte by byte: outside the settings part ys is the vendor image moved to this base
pub record Explains (xs ys : List ℕ) (base : ℕ) : Type 0 where
  pub legal : Holds (legal_base (length xs) base)
  pub long : length ys ≡ length xs
  pub same : (k : ℕ) → OutsideSettings (reading2 xs) k → get_or ys k 0 ≡ get_or (moved_image xs base) k 0
