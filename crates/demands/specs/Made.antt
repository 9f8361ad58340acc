-- What the library makes of the vendor image by accepted releases, one after the other.
-- Assumes nothing.
use Rattle.std.specs.Prelude.{◌≡◌, List, ℕ}
use Rattle.words.specs.Le.{Bytes}
use Rattle.reading_rules.specs.Reading.{reading2}
use Rattle.release.specs.Release.{releasing, released_image}

-- what a chain of accepted releases, by any owners of any lists, makes of xs, and its last base
pub data Made (xs : List ℕ) : List ℕ → ℕ → Type 0 where
  start : Made xs xs (reading2 xs).base
  then : {zs : List ℕ} {base : ℕ} → Made xs zs base → (s : List ℕ) (next : ℕ) (o : List ℕ) (owner : ℕ) → Bytes s
      → (releasing zs s next o owner).number ≡ 0
      → Made xs (released_image zs s next o owner) next
