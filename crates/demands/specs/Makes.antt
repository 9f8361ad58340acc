-- What it is for a release to make a file of an image.
-- Assumes nothing.
use Rattle.std.specs.Prelude.{ℕ, List, ◌≡◌}
use Rattle.words.specs.Le.{Bytes}
use Rattle.release.specs.Release.{releasing, released_image}

-- the release of xs with this sheet to this base, by this owner of this list, is accepted, and makes ys
pub record Makes (xs ys : List ℕ) (base : ℕ) (s o : List ℕ) (owner : ℕ) : Type 0 where
  pub bytes : Bytes s
  pub goes : (releasing xs s base o owner).number ≡ 0
  pub is : released_image xs s base o owner ≡ ys
