-- Document 01, "Sample table": its rows marked (P) as one table, and one statement of what each row says.
-- Assumes nothing.
use Rattle.std.specs.Prelude.{ℕ, ◌+◌, ◌-◌, ◌≤◌, ◌<◌, List, [], ◌∷◌, ◌≡◌, ℤ, negsuc, length, get_or, take}
use Rattle.facts.specs.Fact.{Holds}
use Rattle.words.specs.Le.{le, Bytes}
use Rattle.words.specs.Number.{number}
use Rattle.header.specs.Base.{legal_base}
use Rattle.table.specs.Entry.{place_of}
use Rattle.reading_rules.specs.Reading.{rebased, refusal, reading2, Read2}
use Rattle.moves.specs.Moves.{difference}
use Rattle.move_image.specs.Moving.{moved_words}
use Rattle.move_answer.specs.MoveAnswer.{refused_move, accepted_move}
use Rattle.sheet.specs.Sheet.{sheet_identity, same_identity}
use Rattle.owners.specs.Owners.{owners_fit, owned}
use Rattle.release.specs.Release.{releasing, released_image}
use Rattle.release.specs.Releasable.{Releasable}

pub data Row : Type 0 where
  -- an entry of an image of this size points at this place
  points : (size entry place : ℕ) → Row
  -- it is refused with this number
  refuses : (size entry number : ℕ) → Row
  -- a base is legal for an image of this size
  legal : (size base : ℕ) → Row
  -- a base isn't
  illegal : (size base : ℕ) → Row
  -- an image at old that is released to new moves by this difference, and answers that it goes down by this much
  moves : (old new difference down : ℕ) → Row
  -- such a release makes of this word of k bytes that one
  makes : (k old new word moved : ℕ) → Row
  -- for an image of the sheet's identity and revision with at least so many region bytes, the sheet by this owner of the list sets two
  -- region bytes to these
  sets : (sheet list : List ℕ) (owner z at first second : ℕ) → Row
  -- the same by any owner of both bytes, by whatever good list
  owns : (sheet : List ℕ) (z at first second : ℕ) → Row
  -- by this owner it is refused with 24
  foreign : (sheet list : List ℕ) (owner z : ℕ) → Row
  -- the sheet is refused with 15
  unsound : (sheet : List ℕ) → Row

-- the move in the answer to a release from old to new
abbrev pub distance_of : ℕ → ℕ → ℤ
distance_of old new = (accepted_move (rebased (refusal 0 0) old) new).distance

-- what a row says of the rules
abbrev pub Claim : Row → Type 0
Claim (points size entry place) = ((place_of size entry).number ≡ 0) × ((place_of size entry).at ≡ place)
Claim (refuses size entry number) = ((place_of size entry).number ≡ number) × ((place_of size entry).at ≡ 0)
Claim (legal size base) = Holds (legal_base size base)
Claim (illegal size base) = Holds (legal_base size base) → ⊥
Claim (moves old new by down) =
    (difference old new 4 ≡ by)
    × ((xs s o : List ℕ) (owner : ℕ) → Releasable xs s new o owner → (reading2 xs).base ≡ old
    → releasing xs s new o owner ≡ record { number = 0; index = 0; distance = negsuc (down - 1) })
Claim (makes k old new word moved) =
    (xs s o : List ℕ) (owner : ℕ) → Bytes xs → Bytes s → Releasable xs s new o owner → (reading2 xs).base ≡ old
    → (j : ℕ) → j < (moved_words xs).count → (moved_words xs).width j ≡ k → le k xs ((moved_words xs).at j) ≡ word
    → le k (released_image xs s new o owner) ((moved_words xs).at j) ≡ moved
Claim (sets s l w z at first second) =
    (xs : List ℕ) (base : ℕ) → Bytes xs → Read2 xs → Holds (same_identity (sheet_identity s) (reading2 xs).identity)
    → z ≤ (reading2 xs).z → Holds (legal_base (length xs) base)
    → (releasing xs s base l w ≡ accepted_move (reading2 xs) base)
    × (get_or (released_image xs s base l w) ((reading2 xs).c + at) 0 ≡ first)
    × (get_or (released_image xs s base l w) ((reading2 xs).c + at + 1) 0 ≡ second)
Claim (owns s z at first second) =
    (xs : List ℕ) (base : ℕ) (l : List ℕ) (w : ℕ) → Bytes xs → Read2 xs → Holds (same_identity (sheet_identity s) (reading2 xs).identity)
    → z ≤ (reading2 xs).z → Holds (legal_base (length xs) base) → Holds (owners_fit l w (reading2 xs).z)
    → Holds (owned l w at) → Holds (owned l w (at + 1))
    → (releasing xs s base l w ≡ accepted_move (reading2 xs) base)
    × (get_or (released_image xs s base l w) ((reading2 xs).c + at) 0 ≡ first)
    × (get_or (released_image xs s base l w) ((reading2 xs).c + at + 1) 0 ≡ second)
Claim (foreign s l w z) =
    (xs : List ℕ) (base : ℕ) → Read2 xs → Holds (same_identity (sheet_identity s) (reading2 xs).identity) → z ≤ (reading2 xs).z
    → releasing xs s base l w ≡ refused_move 24 0
Claim (unsound s) =
    (xs : List ℕ) (base : ℕ) (l : List ℕ) (w : ℕ) → Read2 xs → releasing xs s base l w ≡ refused_move 15 0

-- every row of a list
abbrev pub Each : List Row → Type 0
Each [] = ⊥ → ⊥
Each (row ∷ rest) = Claim row × Each rest

abbrev pub sheet : List ℕ
sheet =
    0x54
    ∷ 0x52
    ∷ 0x45
    ∷ 0x41
    ∷ 0x54
    ∷ 0x2D
    ∷ 0x30
    ∷ 0x31
    ∷ 0x04
    ∷ 0x03
    ∷ 0x02
    ∷ 0x01
    ∷ 0x01
    ∷ 0x00
    ∷ 0x00
    ∷ 0x00
    ∷ 0x28
    ∷ 0x00
    ∷ 0x00
    ∷ 0x00
    ∷ 0x02
    ∷ 0x00
    ∷ 0x18
    ∷ 0x00
    ∷ 0x01
    ∷ 0x00
    ∷ []

-- region bytes 40 and 41 are owner 1's
abbrev owners : List ℕ
owners = 0x28 ∷ 0x00 ∷ 0x00 ∷ 0x00 ∷ 0x02 ∷ 0x00 ∷ 0x01 ∷ 0x00 ∷ []

-- image size 524,288
abbrev pub rows : List Row
rows =
    points 524288 0xFFFFFFFC 524284
    ∷ refuses 524288 0xFFFFFFFD 13
    ∷ points 524288 0x0007FFFC 524284
    ∷ refuses 524288 0x00F80000 13
    ∷ refuses 524288 0x8F000000 22
    ∷ refuses 524288 0xF0000000 13
    ∷ refuses 524288 0x01000010 12
    ∷ legal 524288 0xFFF80000
    ∷ illegal 524288 0xFFF81000
    ∷ illegal 524288 0xFFF80800
    -- its size alone decides that one; of this the twelve bits alone
    ∷ illegal 524288 0x00100800
    ∷ moves 0xFFF80000 0x00100000 0x00180000 4293394432
    ∷ makes 4 0xFFF80000 0x00100000 0xFFF80040 0x00100040
    ∷ makes 4 0xFFF80000 0x00100000 0xFFFFFFFC 0x0017FFFC
    -- a word of 8 bytes takes the move with its sign
    ∷ makes 8 0xFFF80000 0x00100000 0x00000000FFFFFFFC 0x000000000017FFFC
    ∷ makes 8 0xFFF80000 0x00100000 0x0000000000000040 0xFFFFFFFF00180040
    ∷ makes 8 0x00100000 0xFFF80000 0xFFFFFFFF00180040 0x0000000000000040
    ∷ sets sheet owners 1 42 40 0x01 0x00
    ∷ owns sheet 42 40 0x01 0x00
    ∷ foreign sheet owners 2 42
    ∷ unsound (take 25 sheet)
    ∷ []
