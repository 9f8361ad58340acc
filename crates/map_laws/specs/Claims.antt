-- Request #111: what it is for a list to be the map, and for a base to be the lowest with room for an image.
-- Assumes nothing.
use Rattle.std.specs.Prelude.{ℕ, ◌+◌, ◌≤◌, ◌<◌, List, ◌≡◌, length, get_or}
use Rattle.facts.specs.Fact.{Holds}
use Rattle.header.specs.Base.{legal_base}
use Rattle.handoff_list.specs.Blocks.{blocks}
use Rattle.map_ranges.specs.Ranges.{ranges, all_end}
use Rattle.map_free.specs.Free.{Free, Span, span, memory_map}

-- run i of a list
abbrev pub nth : List Span → ℕ → Span
nth l i = get_or l i (span 0 0)

-- the byte at y is in a run
abbrev pub Within : ℕ → Span → Type 0
Within y s = (s.first ≤ y) × (y ≤ s.last)

-- l is the map of the bytes that have a property
pub record IsMap (F : ℕ → Type 0) (l : List Span) : Type 0 where
  pub free : (i : ℕ) → i < length l → (y : ℕ) → Within y (nth l i) → F y
  pub all : (y : ℕ) → F y → (i : ℕ) × (i < length l) × Within y (nth l i)
  pub some : (i : ℕ) → i < length l → (nth l i).first ≤ (nth l i).last
  pub apart : (i j : ℕ) → i < j → j < length l → (nth l i).last + 1 < (nth l j).first

-- an image of this size may stand at b: the base is legal, and each of its bytes is free
pub record Lies (F : ℕ → Type 0) (size b : ℕ) : Type 0 where
  pub legal : Holds (legal_base size b)
  pub free : (y : ℕ) → b ≤ y → y < b + size → F y

-- it is whole inside one run of a list
abbrev pub InOne : List Span → ℕ → ℕ → Type 0
InOne l size b = (i : ℕ) × (i < length l) × ((nth l i).first ≤ b) × (b + size ≤ (nth l i).last + 1)

-- a list and a size that none of 30 to 36 refuses
pub record Asked (xs : List ℕ) (size : ℕ) : Type 0 where
  pub listed : (blocks xs).number ≡ 0
  pub fit : Holds (all_end (ranges xs))
  pub few : length (ranges xs) ≤ 128
  pub some : 1 ≤ size
  pub most : size ≤ 16777216

-- what an accepted place says
pub record Best (xs : List ℕ) (size b : ℕ) : Type 0 where
  pub lies : Lies (Free (ranges xs)) size b
  pub in_map : InOne (memory_map (ranges xs)) size b
  pub none_lower : (c : ℕ) → c < b → Lies (Free (ranges xs)) size c → ⊥
