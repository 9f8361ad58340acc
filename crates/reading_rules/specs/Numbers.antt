-- Demand 1: which numbers and indices each call may answer.
-- Assumes nothing.
use Rattle.std.specs.Prelude.{ℕ, ◌≤◌, ◌<◌, List, ◌⊎◌, ◌≡◌}
use Rattle.reading_rules.specs.Reading.{n}

-- the numbers of a reading
abbrev pub Known : ℕ → Type 0
Known k = (k ≤ 14) ⊎ ((k ≡ 22) ⊎ ((25 ≤ k) × (k ≤ 27)))

-- those that name an entry
abbrev pub OfEntry : ℕ → Type 0
OfEntry k = ((12 ≤ k) × (k ≤ 14)) ⊎ (k ≡ 22)

-- what a call on xs may answer: 0, a refusal of the reading or one of its own, and an index that is 0, or with 12 to 14 and 22 that of an
-- entry
pub record Numbered (xs : List ℕ) (own : ℕ → Type 0) (number index : ℕ) : Type 0 where
  pub known : Known number ⊎ own number
  pub entry : (index ≡ 0) ⊎ (OfEntry number × (index < n xs))

-- a reading has none of its own
abbrev pub None : ℕ → Type 0
None k = ⊥

-- request #109: 28 of what needs an edition 2 image
abbrev pub ReadOnly : ℕ → Type 0
ReadOnly k = k ≡ 28

-- those of a release: 28, 15 to 18, 23 and 24
abbrev pub OwnRelease : ℕ → Type 0
OwnRelease k = ReadOnly k ⊎ (((15 ≤ k) × (k ≤ 18)) ⊎ ((23 ≤ k) × (k ≤ 24)))

-- of a lookup: 28 and 17
abbrev pub OwnLookup : ℕ → Type 0
OwnLookup k = ReadOnly k ⊎ (k ≡ 17)

-- of an audit: 18, 19 and 20
abbrev pub OwnAudit : ℕ → Type 0
OwnAudit k = (18 ≤ k) × (k ≤ 20)

-- of the list of what an image holds: 28 and 20
abbrev pub OwnList : ℕ → Type 0
OwnList k = ReadOnly k ⊎ (k ≡ 20)
