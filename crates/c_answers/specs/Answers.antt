-- The answers as C sees them, in a lent buffer: eight bytes a field, the number first.
-- Assumes nothing.
use Rattle.std.specs.Prelude.{ℕ, suc, ◌-◌, ◌*◌, ◌^◌, cond, List, [], ◌∷◌, ℤ, pos, negsuc, length}
use Rattle.facts.specs.Fact.{◌≤?◌, test}
use Rattle.words.specs.Put.{put_all}
use Rattle.answers.specs.declared.Reading.{Reading}
use Rattle.answers.specs.declared.Moved.{Moved}
use Rattle.sheet.specs.declared.SheetReading.{SheetReading}
use Rattle.answers.specs.declared.Audited.{Audited}
use Rattle.answers.specs.declared.Listed.{Listed}
use Rattle.answers.specs.declared.Found.{Found}

-- what a call gives where the buffer A has room for an answer of k fields, and what where it hasn't
unfoldable pub if_room : {T : Type 0} → ℕ → List ℕ → T → T → T
if_room k A x y = cond (test (8 * k ≤? length A)) x y

-- the result: the answer's number, or 100 where there is no room
abbrev pub result : ℕ → List ℕ → ℕ → ℕ
result k A number = if_room k A number 100

-- the answer buffer afterwards: the fields from its start on, and what it held after them; what it held where there is no room
abbrev pub answered : List ℕ → List ℕ → List ℕ
answered A fields = if_room (length fields) A (put_all 8 A 0 fields) A

-- a signed number of 64 bits, in two's complement
unfoldable pub twos : ℤ → ℕ
twos (pos n) = n
twos (negsuc n) = 2 ^ 64 - suc n

-- a reading: number, index, H, component, image identity, revision, base, c, z, n, E, extended number
abbrev pub read_fields : Reading → List ℕ
read_fields r =
    r.number ∷ r.index ∷ r.H ∷ r.component ∷ r.identity.image ∷ r.identity.revision ∷ r.base ∷ r.c ∷ r.z ∷ r.n ∷ r.E
    ∷ r.identity.extended ∷ []

-- a release: number, index, how far
abbrev pub move_fields : Moved → List ℕ
move_fields r = r.number ∷ r.index ∷ twos r.distance ∷ []

-- a sheet by itself: number, entries, image identity, revision, extended number
abbrev pub sheet_fields : SheetReading → List ℕ
sheet_fields r = r.number ∷ r.count ∷ r.identity.image ∷ r.identity.revision ∷ r.identity.extended ∷ []

abbrev pub setting_fields : Found → List ℕ
setting_fields r = r.number ∷ r.place ∷ r.length ∷ []

-- an audit: number, index, base, settings, strays, bits, and 1 where it is explained
abbrev pub audit_fields : Audited → List ℕ
audit_fields r =
    r.number ∷ r.index ∷ r.base ∷ r.settings ∷ r.strays ∷ r.bits ∷ cond r.explained 1 0 ∷ []

-- what an image holds: number, index, modules, words, entries
abbrev pub list_fields : Listed → List ℕ
list_fields r = r.number ∷ r.index ∷ r.modules ∷ r.words ∷ r.entries ∷ []
