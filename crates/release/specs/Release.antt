-- Document 02, #105 and #106: one call to release, image, sheet and new base, by one owner of an owner list o.
-- Assumes nothing.
use Rattle.std.specs.Prelude.{ℕ, List, ◌≡◌, length}
use Rattle.reading_rules.specs.Reading.{reading2}
use Rattle.answers.specs.After.{after_reading, unless_refused}
use Rattle.answers.specs.declared.Moved.{Moved}
use Rattle.move_image.specs.Moving.{move_to}
use Rattle.move_answer.specs.MoveAnswer.{refused_move}
use Rattle.sheet_bodies.specs.Set.{set_by}
use Rattle.release_judge.specs.Judged.{release_rules}

-- the answer of a release: the image's refusals come first
unfoldable pub releasing : List ℕ → List ℕ → ℕ → List ℕ → ℕ → Moved
releasing xs s base o owner = after_reading refused_move (reading2 xs) (release_rules (reading2 xs) (length xs) s base o owner)

-- the two steps: the sheet's bytes are set, then the image is moved
unfoldable pub two_steps : List ℕ → List ℕ → ℕ → List ℕ
two_steps xs s base = move_to (set_by xs (reading2 xs) s) (reading2 xs) base

-- the image afterwards: set and moved, or what it was where the release is refused
unfoldable pub released_image : List ℕ → List ℕ → ℕ → List ℕ → ℕ → List ℕ
released_image xs s base o owner = unless_refused (releasing xs s base o owner).number (two_steps xs s base) xs

-- the promise of `release`: the answer, and the image afterwards
abbrev pub Releases : List ℕ → List ℕ → ℕ → List ℕ → ℕ → Moved → List ℕ → Type 0
Releases xs s base o owner r ys = (r ≡ releasing xs s base o owner) × (ys ≡ released_image xs s base o owner)
