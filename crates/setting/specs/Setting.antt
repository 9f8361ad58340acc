-- Document 01, "One setting".
-- Assumes nothing.
use Rattle.std.specs.Prelude.{ℕ, ◌+◌, cond, List, [], ◌≡◌, eqb, length, take, drop}
use Rattle.std.specs.Borrow.{Bor}
use Rattle.facts.specs.Fact.{Fact, ◌≤?◌, ◌and◌, test}
use Rattle.facts.specs.Rules.{answer, rule}
use Rattle.reading_rules.specs.Reading.{reading2}
use Rattle.answers.specs.After.{after_reading, unless_refused}

-- 17 FIELD for a lookup: it isn't empty and lies in the settings part
abbrev pub setting_fits : ℕ → ℕ → ℕ → Fact
setting_fits offset size z = 1 ≤? size and 32 ≤? offset and offset + size ≤? z

-- the number of a lookup: the image's refusal, 17, or 0
unfoldable pub setting_number : List ℕ → ℕ → ℕ → ℕ
setting_number xs offset size =
    after_reading (λ number index. number) (reading2 xs) (rule 17 (setting_fits offset size (reading2 xs).z) (answer 0))

-- the bytes that it hands back: the setting's, or none where it is refused
unfoldable pub setting_part : List ℕ → ℕ → ℕ → List ℕ
setting_part xs offset size = unless_refused (setting_number xs offset size) (take size (drop ((reading2 xs).c + offset) xs)) []

-- where in the image they stand; the empty part stands at the region's start, or at the image's where the image is refused
unfoldable pub setting_place : List ℕ → ℕ → ℕ → ℕ
setting_place xs offset size = (reading2 xs).c + cond (eqb (setting_number xs offset size) 0) offset 0

-- the same two in the region's own part
abbrev pub region_part : List ℕ → ℕ → ℕ → List ℕ
region_part region offset size = cond (test (setting_fits offset size (length region))) (take size (drop offset region)) []

abbrev pub region_place : List ℕ → ℕ → ℕ → ℕ
region_place region offset size = cond (test (setting_fits offset size (length region))) offset 0

-- r is the part of the lent slice s that stands `at` bytes from its start: the same memory, not a copy
abbrev pub Stands : Bor (List ℕ) → ℕ → Bor (List ℕ) → Type 0
Stands s at r = (r.ref_ptr.0 ≡ s.ref_ptr.0) × (r.ref_ptr.1 ≡ at + s.ref_ptr.1)

-- the promise of `in_region`
abbrev pub FoundIn : Bor (List ℕ) → ℕ → ℕ → Bor (List ℕ) → Type 0
FoundIn region offset size r = (r.now ≡ region_part region.now offset size) × Stands region (region_place region.now offset size) r

-- the promise of `setting`
abbrev pub HandsBack : Bor (List ℕ) → ℕ → ℕ → Bor (List ℕ) → Type 0
HandsBack image offset size r = (r.now ≡ setting_part image.now offset size) × Stands image (setting_place image.now offset size) r

-- the promise of `setting_number`
abbrev pub NumberOf : List ℕ → ℕ → ℕ → ℕ → Type 0
NumberOf xs offset size r = r ≡ setting_number xs offset size
