-- Document 01, "The release sheet": its layout, and rules 15, 16 and 17. s is the sheet.
-- Assumes nothing.
use Rattle.std.specs.Prelude.{ℕ, zero, suc, ◌+◌, ◌*◌, List, length}
use Rattle.facts.specs.Fact.{Fact, Holds, ◌≤?◌, ◌≡?◌, ◌and◌, every}
use Rattle.words.specs.Le.{le}
use Rattle.answers.specs.declared.Identity.{Identity}
use Rattle.sheet.specs.declared.Entry.{Entry}

-- for which image it is
abbrev pub sheet_identity : List ℕ → Identity
sheet_identity s = record { image = le 8 s 0; revision = le 4 s 8; extended = le 2 s 14 }

-- m, the number of its entries
abbrev pub count : List ℕ → ℕ
count s = le 2 s 12

-- entry i: where in the region its bytes go, how many there are, and where in the sheet they stand
abbrev pub offset : List ℕ → ℕ → ℕ
offset s i = le 4 s (16 + 8 * i)

abbrev pub size : List ℕ → ℕ → ℕ
size s i = le 2 s (16 + 8 * i + 4)

abbrev pub position : List ℕ → ℕ → ℕ
position s i = le 2 s (16 + 8 * i + 6)

-- the three together
abbrev pub entry_at : List ℕ → ℕ → Entry
entry_at s i = record { offset = offset s i; size = size s i; position = position s i }

-- the running position: where the body of entry i must start, each body beginning where the one before ends
unfoldable pub body_at : List ℕ → ℕ → ℕ
body_at s zero = 16 + 8 * count s
body_at s (suc i) = body_at s i + size s i

-- the end of the entry before entry i
abbrev pub end_before : List ℕ → ℕ → ℕ
end_before s zero = 0
end_before s (suc i) = offset s i + size s i

-- 15 SHEET, an entry: it isn't empty, its body is the next one, and it begins where the entry before it ends, or after
abbrev pub follows : Entry → ℕ → ℕ → Fact
follows w body last = 1 ≤? w.size and w.position ≡? body and last ≤? w.offset

abbrev pub entry_fits : List ℕ → ℕ → Fact
entry_fits s i = follows (entry_at s i) (body_at s i) (end_before s i)

-- 15 SHEET, the contents: 16 bytes to 65,535, no more than 256 entries, and every entry is there
abbrev pub contents_fit : List ℕ → Fact
contents_fit s = 16 ≤? length s and length s ≤? 65535 and count s ≤? 256 and 16 + 8 * count s ≤? length s

-- 15 SHEET, the bodies: each entry is right, and after the last body nothing is missing and nothing left
abbrev pub bodies_fit : List ℕ → Fact
bodies_fit s = every (count s) (entry_fits s) and body_at s (count s) ≡? length s

-- 15 SHEET
abbrev pub sheet_fits : List ℕ → Fact
sheet_fits s = contents_fit s and bodies_fit s

-- 16 IDENTITY: it names this image at this revision, with this extended number
abbrev pub same_identity : Identity → Identity → Fact
same_identity a b = a.image ≡? b.image and a.revision ≡? b.revision and a.extended ≡? b.extended

-- 17 FIELD: an entry lies in the settings part, after the region's header
abbrev pub in_field : Entry → ℕ → Fact
in_field w z = 32 ≤? w.offset and w.offset + w.size ≤? z

abbrev pub field_fits : List ℕ → ℕ → ℕ → Fact
field_fits s z i = in_field (entry_at s i) z

-- what a sheet that passes 15 and 17 for a region of z bytes has
pub record Sound (s : List ℕ) (z : ℕ) : Type 0 where
  pub contents : Holds (contents_fit s)
  pub bodies : Holds (bodies_fit s)
  pub fields : Holds (every (count s) (field_fits s z))
