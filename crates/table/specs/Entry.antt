-- Document 01, "Where an entry points", with document 02's #104: rules 12, 22 and 13 for one entry, in that order.
-- Assumes nothing.
use Rattle.std.specs.Prelude.{ℕ, ◌+◌, ◌-◌, ◌*◌, ◌/◌, ◌%◌, ◌^◌, cond, ◌≡◌, eqb}
use Rattle.std.proofs.Common.{sym, ◌∙◌}
use Rattle.facts.specs.Fact.{Fact, ◌≤?◌, ◌≡?◌, ◌or◌, test}
use Rattle.table.specs.declared.Place.{Place}

abbrev pub refused_place : ℕ → Place
refused_place k = record { number = k; at = 0 }

-- a check of entry and place, and where the entry points once it is passed
abbrev pub place_stage : ℕ → Fact → Place → Place
place_stage k p rest = cond (test p) rest (refused_place k)

-- 12 TYPE: bits 27..24 are all clear or all set
abbrev pub type_fits : ℕ → Fact
type_fits w = let kind = w / 2 ^ 24 % 16 in kind ≡? 0 or kind ≡? 15

-- 22 RESERVED: bits 30..28 are all clear where bit 31 is clear, and all set where it is set
abbrev pub reserved_fits : ℕ → Fact
reserved_fits w = w / 2 ^ 28 % 8 ≡? 7 * (w / 2 ^ 31 % 2)

-- 13 PLACE: the word lies in the image, whole
abbrev pub fitted : ℕ → ℕ → Place
fitted size at = place_stage 13 (at + 4 ≤? size) (record { number = 0; at = at })

-- bits 23..0 count up from the image's start, or where bit 31 is set they are what is left of 2^24 after counting back from the image's
-- end; 13 also where that would be before the start
unfoldable pub place_of : ℕ → ℕ → Place
place_of size w =
    let low = w % 2 ^ 24 in
    place_stage 12 (type_fits w)
    (place_stage 22 (reserved_fits w)
    (cond (eqb (w / 2 ^ 31 % 2) 0) (fitted size low)
    (place_stage 13 (2 ^ 24 - low ≤? size) (fitted size (size - (2 ^ 24 - low))))))

-- the promise of `point`
abbrev pub Points : ℕ → ℕ → Place → Type 0
Points entry size r = r ≡ place_of size entry

-- it admits one answer
pub one_point : (entry size : ℕ) (r s : Place) → Points entry size r → Points entry size s → r ≡ s
one_point entry size r s a b = a ∙ sym b
