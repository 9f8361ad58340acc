-- Releases one after the other, each with its own sheet, base, owner list and owner: what they answer and what they leave.
-- Assumes nothing.
use Prim.{Unit}
use Rattle.std.specs.Prelude.{ℕ, cond, List, [], ◌∷◌, eqb}
use Rattle.words.specs.Le.{Bytes}
use Rattle.answers.specs.declared.Moved.{Moved}
use Rattle.release.specs.Release.{releasing, released_image}

-- a release that somebody asks for
pub record Call : Type 0 where
  pub sheet : List ℕ
  pub base : ℕ
  pub list : List ℕ
  pub owner : ℕ

-- its answer, and the image after it
abbrev pub answer_to : List ℕ → Call → Moved
answer_to xs c = releasing xs c.sheet c.base c.list c.owner

abbrev pub after : List ℕ → Call → List ℕ
after xs c = released_image xs c.sheet c.base c.list c.owner

-- the image once all of them were made, accepted or refused
unfoldable pub after_all : List ℕ → List Call → List ℕ
after_all xs [] = xs
after_all xs (c ∷ cs) = after_all (after xs c) cs

-- their answers
unfoldable pub answers : List ℕ → List Call → List Moved
answers xs [] = []
answers xs (c ∷ cs) = answer_to xs c ∷ answers (after xs c) cs

-- those that are accepted
unfoldable pub accepted_of : List ℕ → List Call → List Call
accepted_of xs [] = []
accepted_of xs (c ∷ cs) =
    let rest = accepted_of (after xs c) cs in cond (eqb (answer_to xs c).number 0) (c ∷ rest) rest

-- every sheet is a list of bytes, whatever bytes
unfoldable pub SheetBytes : List Call → Type 0
SheetBytes [] = Unit {0}
SheetBytes (c ∷ cs) = Bytes c.sheet × SheetBytes cs
