-- Request #107: the files of a volume and their sections, as a list of parts.
-- Assumes nothing.
use Rattle.std.specs.Prelude.{ℕ, zero, suc, ◌+◌, ◌-◌, ◌*◌, ◌/◌, ◌%◌, cond, List, [], ◌∷◌, ◌++◌, ltb, get_or}
use Rattle.words.specs.Round.{round8, round4}
use Rattle.facts.specs.Fact.{Fact, ◌≤?◌, ◌≡?◌, ◌and◌, ◌or◌, every, test}
use Rattle.words.specs.Le.{le}
use Rattle.volume.specs.Volume.{file_held, section_held}
use Rattle.inside_files.specs.declared.Part.{Part}
use Rattle.inside_files.specs.declared.PartKind.{PartKind}
use Rattle.inside_files.specs.declared.PartKind.TheVariants.{End, Header, Section, Broken}
use Rattle.inside_files.specs.declared.Place.{Place}

-- ---- the kinds of parts, by their numbers, which checks compare

abbrev pub part_number : PartKind → ℕ
part_number End = 0
part_number Header = 1
part_number Section = 2
part_number Broken = 3

-- nothing is left
abbrev pub no_part : ℕ
no_part = part_number End

-- a file's header, or the free end
abbrev pub header_part : ℕ
header_part = part_number Header

-- a section
abbrev pub section_part : ℕ
section_part = part_number Section

-- no file or section where one should be
abbrev pub broken_part : ℕ
broken_part = part_number Broken

-- ---- the parts

-- a file's header, or the free end
abbrev pub header : ℕ → ℕ → Part
header at len = record { kind = Header; at = at; len = len; sort = 0 }

-- no file or section where one should be
abbrev pub broken : ℕ → Part
broken at = record { kind = Broken; at = at; len = 0; sort = 0 }

-- a section of this size and type
abbrev pub section : ℕ → ℕ → ℕ → Part
section at len t = record { kind = Section; at = at; len = len; sort = t }

-- from f on only 0xFF bytes remain
abbrev pub free : List ℕ → ℕ → ℕ → Fact
free xs v f = every (v - f) (λ i. get_or xs (f + i) 0 ≡? 255)

-- a file as rule 3 wants it, whatever its name, of 24 bytes or more
abbrev pub file_fits : List ℕ → ℕ → ℕ → Fact
file_fits xs v f = file_held xs v f 24

-- a file of this type is passed over: raw, or pad
abbrev pub passed_over : ℕ → Fact
passed_over t = t ≡? 0x01 or t ≡? 0xF0

-- a section of 4 bytes or more, inside its file
abbrev pub section_fits : List ℕ → ℕ → ℕ → Fact
section_fits xs end p = section_held xs end p 4

-- the sections from p on; n bounds how many there can be
unfoldable pub sections_from : List ℕ → ℕ → ℕ → ℕ → List Part
sections_from xs end zero p = []
sections_from xs end (suc n) p =
    let rest = section p (le 3 xs p) (le 1 xs (p + 3)) ∷ sections_from xs end n (round4 (p + le 3 xs p)) in
    cond (ltb p end) (cond (test (section_fits xs end p)) rest (broken p ∷ [])) []

-- where the sections of the file at f start: at its end, where it has none
unfoldable pub sections_at : List ℕ → ℕ → ℕ
sections_at xs f = cond (test (passed_over (le 1 xs (f + 18)))) (f + le 3 xs (f + 20)) (f + 24)

-- the files from f on: up to v, or where only 0xFF bytes remain; n bounds how many there can be
unfoldable pub files_from : List ℕ → ℕ → ℕ → ℕ → List Part
files_from xs v zero f = []
files_from xs v (suc n) f =
    let end = f + le 3 xs (f + 20) in
    let rest = header f 24 ∷ (sections_from xs end (end - sections_at xs f) (sections_at xs f) ++ files_from xs v n (round8 end)) in
    cond (ltb f v) (cond (test (free xs v f)) (header f (v - f) ∷ []) (cond (test (file_fits xs v f)) rest (broken f ∷ []))) []

-- ---- the walk

-- where it goes on in the header file, at f, whose first section rule 4 judges: after that, or at the file's end, where it is passed over
unfoldable pub first_at : List ℕ → ℕ → ℕ → ℕ
first_at xs f end = cond (test (passed_over (le 1 xs (f + 18)))) end (round4 (f + 24 + le 3 xs (f + 24)))

-- where it starts
unfoldable pub first_place : List ℕ → ℕ → Place
first_place xs f = let end = f + le 3 xs (f + 20) in record { file = round8 end; end = end; at = first_at xs f end }

-- what is ahead of a place: sections of the file at hand, then the files after it
unfoldable pub ahead : List ℕ → ℕ → Place → List Part
ahead xs v c = sections_from xs c.end (c.end - c.at) c.at ++ files_from xs v (v - c.file) c.file

-- all that it meets
abbrev pub parts : List ℕ → ℕ → ℕ → List Part
parts xs v f = ahead xs v (first_place xs f)
