-- What an accepted release has: the image reads, and sheet, list, owner and base are fit for it.
-- Assumes nothing.
use Rattle.std.specs.Prelude.{ℕ, List, length}
use Rattle.facts.specs.Fact.{Holds}
use Rattle.header.specs.Base.{legal_base}
use Rattle.reading_rules.specs.Reading.{reading2}
use Rattle.sheet_bodies.specs.Set.{Fits}
use Rattle.owners.specs.Owners.{owners_fit, fields_owned}

-- the sheet fits the image, its bytes are the caller's by a good list, and the new base is legal
pub record Releasable (xs s : List ℕ) (base : ℕ) (o : List ℕ) (owner : ℕ) : Type 0 where
  pub fits : Fits xs s
  pub good : Holds (owners_fit o owner (reading2 xs).z)
  pub own : Holds (fields_owned s o owner)
  pub legal : Holds (legal_base (length xs) base)
