-- Document 02, #106: whatever one owner sends, accepted or refused, the others' bytes and answers are as if nothing had been sent, so long
-- as the list stays and that owner keeps the base. Over any sequence of releases (`Calls`); `IsolationHolds` proves it.
-- Assumes nothing.
use Prim.{Unit}
use Rattle.std.specs.Prelude.{ℕ, ◌+◌, ◌≤◌, ◌<◌, cond, List, [], ◌∷◌, ◌≡◌, eqb, length, get_or}
use Rattle.facts.specs.Fact.{Holds}
use Rattle.words.specs.Le.{Bytes}
use Rattle.reading_rules.specs.Reading.{rebased, reading2, Read2}
use Rattle.answers.specs.declared.Moved.{Moved}
use Rattle.moves.specs.Moves.{Beside}
use Rattle.move_image.specs.Moving.{moved_words}
use Rattle.owners.specs.Owners.{owned}
use Rattle.release.specs.Release.{releasing, released_image}
use Rattle.demands.specs.Calls.{Call, answer_to, after, after_all, answers, SheetBytes}

-- the list stays: it is that of every call
unfoldable pub OneList : List ℕ → List Call → Type 0
OneList o [] = Unit {0}
OneList o (c ∷ cs) = (c.list ≡ o) × OneList o cs

-- the answers to those that aren't this owner's
unfoldable pub answers_but : ℕ → List ℕ → List Call → List Moved
answers_but w xs [] = []
answers_but w xs (c ∷ cs) = let rest = answers_but w (after xs c) cs in cond (eqb c.owner w) rest (answer_to xs c ∷ rest)

-- all of this owner's left out
unfoldable pub without : ℕ → List Call → List Call
without w [] = []
without w (c ∷ cs) = cond (eqb c.owner w) (without w cs) (c ∷ without w cs)

-- each of this owner's that is accepted keeps the base
unfoldable pub Keeps : ℕ → List ℕ → List Call → Type 0
Keeps w xs [] = Unit {0}
Keeps w xs (c ∷ cs) = (c.owner ≡ w → (answer_to xs c).number ≡ 0 → c.base ≡ (reading2 xs).base) × Keeps w (after xs c) cs

-- the image's byte k isn't this owner's, the region being at `region`
abbrev pub NotOf : List ℕ → ℕ → ℕ → ℕ → Type 0
NotOf o w region k = (j : ℕ) → k ≡ region + j → Holds (owned o w j) → ⊥

-- with all of owner w's releases and without them: the others get the same answers, the image reads the same, and every byte that isn't
-- owner w's is the same
pub record Isolated (xs o : List ℕ) (w : ℕ) (cs : List Call) : Type 0 where
  pub same_answers : answers_but w xs cs ≡ answers xs (without w cs)
  pub same_reading : reading2 (after_all xs cs) ≡ reading2 (after_all xs (without w cs))
  pub same_length : length (after_all xs cs) ≡ length (after_all xs (without w cs))
  pub same_bytes : (k : ℕ) → NotOf o w (reading2 xs).c k → get_or (after_all xs cs) k 0 ≡ get_or (after_all xs (without w cs)) k 0

-- of any image, one that reads or not
abbrev pub Isolation : Type 0
Isolation =
    (xs o : List ℕ) (w : ℕ) (cs : List Call) → Bytes xs → SheetBytes cs → OneList o cs → Keeps w xs cs → Isolated xs o w cs

-- in the request's own words: each byte of another owner's ranges is as if owner w had sent nothing, whatever the list
abbrev pub Theirs : Type 0
Theirs =
    (xs o : List ℕ) (w u : ℕ) (cs : List Call) → (u ≡ w → ⊥) → Bytes xs → SheetBytes cs → OneList o cs → Keeps w xs cs → (j : ℕ)
    → Holds (owned o u j) → get_or (after_all xs cs) ((reading2 xs).c + j) 0 ≡ get_or (after_all xs (without w cs)) ((reading2 xs).c + j) 0

-- ---- nobody's bytes: a byte of the settings part that is in no range is changed by no release

abbrev pub Nobody's : Type 0
Nobody's =
    (xs s : List ℕ) (base : ℕ) (o : List ℕ) (owner : ℕ) → Bytes xs → Bytes s → Read2 xs → (j : ℕ) → 32 ≤ j → j < (reading2 xs).z
    → (Holds (owned o 1 j) → ⊥) → (Holds (owned o 2 j) → ⊥)
    → get_or (released_image xs s base o owner) ((reading2 xs).c + j) 0 ≡ get_or xs ((reading2 xs).c + j) 0

-- ---- a move is seen by both: an accepted release changes the base in the reading and nothing else there; of the image's bytes it changes
-- its own entries and the words of the move alone

abbrev pub Seen : Type 0
Seen =
    (xs s : List ℕ) (base : ℕ) (o : List ℕ) (owner : ℕ) → Bytes xs → Bytes s → (releasing xs s base o owner).number ≡ 0
    → (reading2 (released_image xs s base o owner) ≡ rebased (reading2 xs) base)
    × ((k : ℕ) → NotOf o owner (reading2 xs).c k → Beside (moved_words xs) (moved_words xs).count k
    → get_or (released_image xs s base o owner) k 0 ≡ get_or xs k 0)
