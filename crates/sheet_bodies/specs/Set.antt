-- Document 01, "The release sheet": the bytes that it sets.
-- Assumes nothing.
use Rattle.std.specs.Prelude.{ℕ, zero, suc, ◌+◌, ◌-◌, List, ◌++◌, get_or, take, drop, set}
use Rattle.facts.specs.Fact.{Holds}
use Rattle.answers.specs.declared.Reading.{Reading}
use Rattle.reading_rules.specs.Reading.{reading2, Read2}
use Rattle.reading_rules.specs.Settings.{settings_at, settings_size}
use Rattle.moves.specs.Moves.{Words}
use Rattle.sheet.specs.Sheet.{Sound, sheet_identity, count, offset, size, body_at, same_identity}

-- xs with the k bytes of s from `from` on copied to `at`
unfoldable pub copied : List ℕ → ℕ → List ℕ → ℕ → ℕ → List ℕ
copied xs at s from zero = xs
copied xs at s from (suc k) = set (copied xs at s from k) (at + k) (get_or s (from + k) 0)

-- the settings part, which starts at 32 in the region, with the bodies of the first i entries set
unfoldable pub written : List ℕ → List ℕ → ℕ → List ℕ
written part s zero = part
written part s (suc i) = copied (written part s i) (offset s i - 32) s (body_at s i) (size s i)

-- xs with m in the place of its `long` elements from `from` on
abbrev pub joined : List ℕ → ℕ → ℕ → List ℕ → List ℕ
joined xs from long m = take from xs ++ (m ++ drop long (drop from xs))

-- the image with the sheet's bodies in its settings part, which is from 32 on in the region; no other byte is another
unfoldable pub set_by : List ℕ → Reading → List ℕ → List ℕ
set_by xs r s =
    let from = settings_at r in
    let long = settings_size r in
    joined xs from long (written (take long (drop from xs)) s (count s))

-- an image that reads, with the sheet's bytes set
unfoldable pub set_image : List ℕ → List ℕ → List ℕ
set_image xs s = set_by xs (reading2 xs) s

-- a sheet that passes 15, 16 and 17 for an image that reads
pub record Fits (xs s : List ℕ) : Type 0 where
  pub read : Read2 xs
  pub sound : Sound s (reading2 xs).z
  pub names : Holds (same_identity (sheet_identity s) (reading2 xs).identity)

-- the sheet's own bytes in the image
abbrev pub fields_of : Reading → List ℕ → Words
fields_of r s = record { count = count s; at = λ i. r.c + offset s i; width = size s }
