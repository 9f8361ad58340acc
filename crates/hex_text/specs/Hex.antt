-- Document 02, #112: bytes at a base as Intel HEX text, line by line.
-- Assumes nothing.
use Rattle.std.specs.Prelude.{ℕ, zero, suc, ◌+◌, ◌-◌, ◌*◌, ◌/◌, ◌%◌, cond, List, [], ◌∷◌, ◌++◌, length, take, drop}
use Rattle.facts.specs.Fact.{Fact, ◌≤?◌, ◌≡?◌, ◌and◌, test, Holds}
use Rattle.words.specs.Le.{Bytes}
use Rattle.volume.specs.Volume.{length_fits}
use Rattle.header.specs.Base.{legal_base}
use Rattle.text_lines.specs.Text.{hex_digit}

-- each byte as two capital hex digits
abbrev pub pairs : List ℕ → List ℕ
pairs [] = []
pairs (b ∷ bs) = hex_digit (b / 16) ∷ hex_digit (b % 16) ∷ pairs bs

-- the bytes added up
abbrev pub total : List ℕ → ℕ
total [] = 0
total (b ∷ bs) = b + total bs

-- the byte that brings a sum to a multiple of 256
abbrev pub sum_byte : ℕ → ℕ
sum_byte s = (256 - s % 256) % 256

-- what stands in a record before its data: how many bytes of data, the address with its high byte first, the kind
abbrev pub front : ℕ → ℕ → ℕ → List ℕ
front kind address d = d ∷ address / 256 ∷ address % 256 ∷ kind ∷ []

-- a record of this kind, at this address of 16 bits, with these data: a colon, its bytes and the byte of their sum, a line feed
unfoldable pub line : ℕ → ℕ → List ℕ → List ℕ
line kind address bs =
    let bytes = front kind address (length bs) ++ bs in
    58 ∷ (pairs (bytes ++ (sum_byte (total bytes) ∷ [])) ++ (10 ∷ []))

-- kind 04, the extended linear address: the upper 16 bits of an address
unfoldable pub upper_line : ℕ → List ℕ
upper_line a = line 4 0 (a / 16777216 ∷ a / 65536 % 256 ∷ [])

-- kind 00: data, at the lower 16 bits of their address
unfoldable pub data_line : ℕ → List ℕ → List ℕ
data_line a bs = line 0 (a % 65536) bs

-- kind 01: the end
unfoldable pub end_line : List ℕ
end_line = line 1 0 []

-- byte i, which isn't the first, begins a new 64 KiB of address
abbrev pub turns : ℕ → ℕ → Fact
turns base i = 1 ≤? i and (base + i) % 65536 ≡? 0

-- data that stand from byte i on, the upper 16 bits before them where they are new
unfoldable pub part : ℕ → ℕ → List ℕ → List ℕ
part base i bs = cond (test (turns base i)) (upper_line (base + i) ++ data_line (base + i) bs) (data_line (base + i) bs)

-- the 16 bytes from byte i on, or what is left
abbrev pub sixteen : List ℕ → ℕ → List ℕ
sixteen bytes i = take 16 (drop i bytes)

-- the upper 16 bits of the base, then the first k parts of 16 bytes, the rest in the last
unfoldable pub parts : ℕ → List ℕ → ℕ → List ℕ
parts base bytes zero = upper_line base
parts base bytes (suc k) = parts base bytes k ++ part base (16 * k) (sixteen bytes (16 * k))

-- all parts
abbrev pub all_parts : ℕ → List ℕ → List ℕ
all_parts base bytes = parts base bytes ((length bytes + 15) / 16)

-- the text of bytes at a base: all their parts, and the end
unfoldable pub exported : ℕ → List ℕ → List ℕ
exported base bytes = all_parts base bytes ++ end_line

-- what may be exported: bytes, of an image's length, at a base that is legal for them
pub record Exportable (base : ℕ) (xs : List ℕ) : Type 0 where
  pub bytes : Bytes xs
  pub fits : Holds (length_fits xs)
  pub legal : Holds (legal_base (length xs) base)

-- a text over the first bytes of a lent buffer, whose other bytes are kept
abbrev pub over : List ℕ → List ℕ → List ℕ
over text l = text ++ drop (length text) l
