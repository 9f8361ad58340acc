-- Exports that the checker computes, and that they meet the premises of the theorems.
-- Assumes nothing.
use Rattle.std.specs.Prelude.{ℕ, zero, suc, ◌+◌, ◌*◌, ◌%◌, ◌≤◌, List, [], ◌∷◌, ◌++◌, ◌≡◌, refl, length, take, drop}
use Rattle.std.proofs.Common.{◌∙◌, arith}
use Rattle.facts.specs.Fact.{Holds, test}
use Rattle.words.specs.Le.{Bytes}
use Rattle.words.specs.Number.{zeros}
use Rattle.words.specs.NumberLaws.{length_zeros}
use Rattle.header.specs.Base.{legal_base}
use Rattle.text_lines.specs.Text.{ascii, hex_digit}
use Rattle.hex_text.specs.Hex.{line, upper_line, data_line, end_line, part, parts, exported, Exportable, over}
use Rattle.hex_text.specs.Sizes.{length_exported}
use Rattle.hex_text.specs.Splits.{PartOf, part_of}
use Rattle.hex_export.specs.Export.{Exports}
use Rattle.hex_export.specs.ExportLaws.{exports_so}
use Rattle.hex_import.specs.Import.{Imports}
use Rattle.hex_laws.specs.Back.{imports_so}

-- d bytes that count up from b
unfoldable pub counting : ℕ → ℕ → List ℕ
counting b zero = []
counting b (suc d) = b % 256 ∷ counting (b + 1) d

-- the smallest export, 72 bytes: four records of 16 and one of 8
pub smallest : exported 0x00FFF000 (counting 0xA0 72)
    ≡ ascii ":0200000400FFFB\n"
    ++ ascii ":10F00000A0A1A2A3A4A5A6A7A8A9AAABACADAEAF88\n"
    ++ ascii ":10F01000B0B1B2B3B4B5B6B7B8B9BABBBCBDBEBF78\n"
    ++ ascii ":10F02000C0C1C2C3C4C5C6C7C8C9CACBCCCDCECF68\n"
    ++ ascii ":10F03000D0D1D2D3D4D5D6D7D8D9DADBDCDDDEDF58\n"
    ++ ascii ":08F04000E0E1E2E3E4E5E6E7AC\n"
    ++ ascii ":00000001FF\n"
unfolding exported parts part upper_line data_line end_line line hex_digit test counting
smallest = refl

counting_bytes : (b d : ℕ) → Bytes (counting b d)
unfolding counting Bytes
counting_bytes b zero k = omega arith
counting_bytes b (suc d) zero = omega arith
counting_bytes b (suc d) (suc k) = counting_bytes (b + 1) d k

pub smallest_may : Exportable 0x00FFF000 (counting 0xA0 72)
unfolding counting
smallest_may = record { bytes = counting_bytes 0xA0 72; fits = (omega arith, omega arith); legal = (refl, omega arith) }

pub smallest_length : length (exported 0x00FFF000 (counting 0xA0 72)) ≡ 232
unfolding counting
smallest_length = length_exported 0x00FFF000 (counting 0xA0 72) refl

-- the theorems speak of it: it is exported into any buffer of 232 bytes or more, and its text is imported into any of 72 or more
pub smallest_goes : (l : List ℕ) → 232 ≤ length l
    → Exports (counting 0xA0 72) 0x00FFF000 l (record { number = 0; length = length (exported 0x00FFF000 (counting 0xA0 72)) })
    (over (exported 0x00FFF000 (counting 0xA0 72)) l)
smallest_goes l room = exports_so (counting 0xA0 72) 0x00FFF000 l smallest_may (rw smallest_length room)

pub smallest_back : (k : List ℕ) → 72 ≤ length k
    → Imports (exported 0x00FFF000 (counting 0xA0 72)) k (record { number = 0; base = 0x00FFF000; length = 72 }) (over (counting 0xA0 72) k)
unfolding counting
smallest_back k room =
    imports_so (exported 0x00FFF000 (counting 0xA0 72)) k 0x00FFF000 (counting 0xA0 72) (record { good = smallest_may; is = refl }) room

-- 4,112 bytes from 0xF000 on cross 64 KiB at byte 4,096: part 255 is the last before it, part 256 has the new upper bits
pub before_crossing : part 0xF000 (16 * 255) (take 16 (drop (16 * 255) (zeros 4112)))
    ≡ ascii ":10FFF0000000000000000000000000000000000001\n"
unfolding part upper_line data_line line hex_digit test zeros
before_crossing = refl

pub crossing : part 0xF000 (16 * 256) (take 16 (drop (16 * 256) (zeros 4112)))
    ≡ ascii ":020000040001F9\n"
    ++ ascii ":1000000000000000000000000000000000000000F0\n"
unfolding part upper_line data_line line hex_digit test zeros
crossing = refl

-- it stands in their text after the 256 parts before it
pub crossing_there : PartOf 0xF000 (zeros 4112) 256 (exported 0xF000 (zeros 4112))
crossing_there = part_of 0xF000 (zeros 4112) 256 (rw (length_zeros 4112) (omega arith))

-- two records of upper bits in all; where the data end on the line, only the first
pub crossing_length : length (exported 0xF000 (zeros 4112)) ≡ 257 * 44 + 2 * 16 + 12
crossing_length = length_exported 0xF000 (zeros 4112) refl ∙ rw (length_zeros 4112)

pub on_the_line : length (exported 0xF000 (zeros 4096)) ≡ 256 * 44 + 16 + 12
on_the_line = length_exported 0xF000 (zeros 4096) refl ∙ rw (length_zeros 4096)

-- the last bytes below 4 GiB may be exported
pub to_the_top : Holds (legal_base 4096 0xFFFFF000)
to_the_top = (refl, omega arith)
