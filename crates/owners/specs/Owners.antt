-- Document 02, #106: the owner list, what makes one good, and which byte of the region is whose. o is the list, of ranges of 8 bytes.
-- Assumes nothing.
use Rattle.std.specs.Prelude.{ℕ, zero, suc, ◌+◌, ◌*◌, ◌/◌, ◌%◌, List, length}
use Rattle.facts.specs.Fact.{Fact, ◌≤?◌, ◌≡?◌, deny, ◌and◌, ◌or◌, every}
use Rattle.words.specs.Le.{le}
use Rattle.sheet.specs.Sheet.{count, offset, size}
use Rattle.owners.specs.declared.Range.{Range}

-- how many ranges it has
abbrev pub ranges : List ℕ → ℕ
ranges o = length o / 8

-- range i: where in the region it begins, how long it is, and whose it is
abbrev pub range_at : List ℕ → ℕ → Range
range_at o i = record { offset = le 4 o (8 * i); size = le 2 o (8 * i + 4); owner = le 2 o (8 * i + 6) }

-- the place after it
abbrev pub range_end : List ℕ → ℕ → ℕ
range_end o i = (range_at o i).offset + (range_at o i).size

-- where range i may begin: the first past the region's header, every other where the one before it ends, or after
abbrev pub range_from : List ℕ → ℕ → ℕ
range_from o zero = 32
range_from o (suc i) = range_end o i

-- owners are 1 and 2
abbrev pub known_owner : ℕ → Fact
known_owner w = w ≡? 1 or w ≡? 2

-- a range that may begin at `from` in a region of z bytes: not empty, inside, with an owner that is known
abbrev pub range_fits : Range → ℕ → ℕ → Fact
range_fits w from z = 1 ≤? w.size and from ≤? w.offset and w.offset + w.size ≤? z and known_owner w.owner

-- a good list: whole ranges, at most 64, each right, in ascending order and apart
abbrev pub list_fits : List ℕ → ℕ → Fact
list_fits o z = length o % 8 ≡? 0 and ranges o ≤? 64 and every (ranges o) (λ i. range_fits (range_at o i) (range_from o i) z)

-- 23 OWNERS: the list is good, and the caller is an owner
abbrev pub owners_fit : List ℕ → ℕ → ℕ → Fact
owners_fit o owner z = list_fits o z and known_owner owner

-- range i is this owner's and has the region's byte k
abbrev pub holds_byte : List ℕ → ℕ → ℕ → ℕ → Fact
holds_byte o owner k i = (range_at o i).owner ≡? owner and (range_at o i).offset ≤? k and suc k ≤? range_end o i

-- the region's byte k is this owner's: some range of its own has it
abbrev pub owned : List ℕ → ℕ → ℕ → Fact
owned o owner k = deny (every (ranges o) (λ i. deny (holds_byte o owner k i)))

-- 24 OWNER: every byte of the sheet's entries is the caller's
abbrev pub fields_owned : List ℕ → List ℕ → ℕ → Fact
fields_owned s o owner = every (count s) (λ i. every (size s i) (λ j. owned o owner (offset s i + j)))
