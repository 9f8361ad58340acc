-- A small image that reads: a volume of 360 bytes with the header file, a raw file that holds a region of 48 bytes and a patch word, and a
-- file with a TE module that has an image base and a relocation word; and one of 368 bytes whose header can have the extended number. What
-- is said of images in general is computed for them, so that nothing is said of no image.
-- Assumes nothing.
use Rattle.std.specs.Prelude.{ℕ, suc, ◌+◌, ◌-◌, ◌^◌, List, [], ◌∷◌, ◌++◌, ◌≡◌, refl, length}
use Rattle.std.proofs.Common.{arith}
use Rattle.facts.specs.Fact.{test, all_below}
use Rattle.facts.specs.First.{first_fault, first_from}
use Rattle.facts.specs.Rules.{run}
use Rattle.words.specs.Le.{le}
use Rattle.words.specs.Put.{digit}
use Rattle.words.specs.Number.{number, zeros}
use Rattle.volume.specs.Volume.{guid, sum_words, sum_bytes, file_sum}
use Rattle.header.specs.Header.{component, extended_number}
use Rattle.table.specs.Entry.{place_of}
use Rattle.table.specs.Passes.{place}
use Rattle.items.specs.Items.{each, apart_from}
use Rattle.inside_files.specs.Parts.{sections_from, sections_at, files_from, first_at, first_place}
use Rattle.inside_files.specs.Parts as files
use Rattle.inside_rows.specs.Rows.{row_at, judged}
use Rattle.inside_modules.specs.Modules.{te_of, module_of}
use Rattle.inside_places.specs.Places.{shifted, found}
use Rattle.inside_blocks.specs.Blocks.{head_item, heads_from, head_count, word_of, item_of, entries_from, blocks_from, items}
use Rattle.inside_walk.specs.Whole.{module_in, item_for, spread, walked}
use Rattle.inside_judge.specs.Rules.{patch_from}
use Rattle.answers.specs.declared.Reading.{Reading}
use Rattle.reading_rules.specs.Reading.{refusal, identity_at, accepted, rules, reading, f, p, reading2}
use Rattle.reading_rules.specs.Edition.{read2_as}

-- bytes 0..71, the volume's header: its length, its mark, h, the word that makes the sum 0, and x
abbrev pub volume : ℕ → ℕ → List ℕ
volume long sum =
    zeros 32 ++ (number 8 long ++ (number 4 0x4856465F ++ (zeros 4 ++ (number 2 72 ++ (number 2 sum ++ (number 2 0 ++ zeros 18))))))

-- bytes 72..99, the header file and its section: the byte that makes the sum 0, s, and the section's size and type
abbrev pub file : ℕ → ℕ → ℕ → List ℕ
file sum s section = guid ++ (number 1 sum ++ (zeros 3 ++ (number 3 s ++ (zeros 1 ++ (number 3 section ++ number 1 0x19)))))

-- bytes 100..171, the header with L, its revision, revision 0x01020304, `TREAT-01`, the size, the base, the component, c and z
abbrev pub header : ℕ → ℕ → ℕ → ℕ → ℕ → List ℕ
header L kind size base c =
    number 4 0x48505346
    ++ (number 4 L
    ++ (zeros 3
    ++ (number 1 kind
    ++ (number 4 0x01020304
    ++ (number 8 0x31302D5441455254
    ++ (number 4 size ++ (number 4 base ++ (zeros 2 ++ (number 2 0x1000 ++ (number 4 c ++ (number 4 48 ++ zeros 28)))))))))))

-- 16 bytes, the patch table: its revision, n, and an entry that counts so many bytes back from the end; then 4 up to the next file
abbrev pub table : ℕ → List ℕ
table back =
    number 4 0x50505346 ++ (number 2 16 ++ (number 1 1 ++ (zeros 1 ++ (number 4 1 ++ (number 4 (2 ^ 32 - back) ++ zeros 4)))))

-- 24 bytes, another file's header: the byte that makes the sum 0, its type and its size
abbrev pub file_head : ℕ → ℕ → ℕ → List ℕ
file_head sum type size = zeros 16 ++ (number 1 sum ++ (zeros 1 ++ (number 1 type ++ (zeros 1 ++ (number 3 size ++ zeros 1)))))

-- the raw file: 24 bytes of header; 32, the region's header with its marks; 16, the settings; 4, the patch word; 4 up to the next file
abbrev pub region : ℕ → List ℕ → List ℕ
region word part = file_head 179 1 76 ++ (zeros 6 ++ (95 ∷ 84 ∷ (zeros 24 ++ (part ++ (number 4 word ++ zeros 4)))))

-- the file of a TE module, none of whose bytes was cut: 24 bytes of header, 4 of section header; 40 of the module's own header, with its
-- image base at 16; from 40 on a relocation block of 12 bytes; the word at 52 that its entry names; 4 up to the volume's end
abbrev module_file : ℕ → List ℕ
module_file base =
    file_head 165 7 84
    ++ (number 3 60
    ++ (number 1 0x12
    ++ (number 2 0x5A56
    ++ (zeros 4
    ++ (number 2 40
    ++ (zeros 8
    ++ (number 8 (base + 300)
    ++ (number 4 40
    ++ (number 4 12
    ++ (zeros 8
    ++ (number 4 0 ++ (number 4 12 ++ (number 2 0x3034 ++ (zeros 2 ++ (number 4 (base + 352) ++ zeros 4)))))))))))))))

-- header revision 3: the table from 172 on, the region from 216 on, the module from 300 on
unfoldable pub small : ℕ → ℕ → List ℕ → List ℕ
small base word part =
    volume 360 0x6F9B ++ (file 176 116 92 ++ (header 72 3 360 base 216 ++ (table 96 ++ (region word part ++ module_file base))))

-- the same with a header of this length, at most 80, and this revision, and with a number at H+76: all from the table on stands 8 bytes later
unfoldable pub later : ℕ → ℕ → ℕ → List ℕ → List ℕ
later L kind extended part =
    volume 368 0x6F93
    ++ (file 168 124 100
    ++ (header L kind 368 0xFFF80000 224
    ++ (zeros 4 ++ (number 2 extended ++ (zeros 2 ++ (table 96 ++ (region 0xFFF80040 part ++ module_file 0xFFF80000)))))))

-- its settings: zeros, and at 40 in the region these two bytes
abbrev pub setting_bytes : ℕ → ℕ → List ℕ
setting_bytes a b = zeros 8 ++ (a ∷ b ∷ zeros 6)

-- what it gives
abbrev pub small_reading : Reading
small_reading =
    record {
      number = 0;
      index = 0;
      H = 100;
      component = 1;
      identity = record { image = 0x31302D5441455254; revision = 0x01020304; extended = 0 };
      base = 0xFFF80000;
      c = 216;
      z = 48;
      n = 1;
      E = 188;
    }

pub small_reads : reading (small 0xFFF80000 0xFFF80040 (setting_bytes 0 1)) ≡ small_reading
unfolding small number zeros digit le reading rules run f p test all_below first_fault first_from sum_words sum_bytes file_sum component extended_number place_of place identity_at accepted
    each apart_from patch_from walked spread module_in item_for items sections_from sections_at files_from first_at first_place files.ahead
    row_at judged te_of module_of shifted found head_item heads_from head_count word_of item_of entries_from blocks_from
small_reads = refl

-- what the other gives with this extended number
abbrev pub later_reading : ℕ → Reading
later_reading extended =
    record {
      number = 0;
      index = 0;
      H = 100;
      component = 1;
      identity = record { image = 0x31302D5441455254; revision = 0x01020304; extended = extended };
      base = 0xFFF80000;
      c = 224;
      z = 48;
      n = 1;
      E = 196;
    }

-- at header revision 6 the number is read
pub six_reads : reading (later 80 6 0x0201 (setting_bytes 0 1)) ≡ later_reading 0x0201
unfolding later number zeros digit le reading rules run f p test all_below first_fault first_from sum_words sum_bytes file_sum component extended_number place_of place identity_at accepted
    each apart_from patch_from walked spread module_in item_for items sections_from sections_at files_from first_at first_place files.ahead
    row_at judged te_of module_of shifted found head_item heads_from head_count word_of item_of entries_from blocks_from
six_reads = refl

-- and L is at least 80
pub six_short : reading (later 79 6 0x0201 (setting_bytes 0 1)) ≡ refusal 5 0
unfolding later number zeros digit le reading rules run f p test all_below first_fault first_from sum_words sum_bytes file_sum
six_short = refl

-- at revision 5 the reading is the same whatever stands there
pub five_reads : (any : ℕ) → reading (later 79 5 any (setting_bytes 0 1)) ≡ later_reading 0
unfolding later number zeros digit le reading rules run f p test all_below first_fault first_from sum_words sum_bytes file_sum component extended_number place_of place identity_at accepted
    each apart_from patch_from walked spread module_in item_for items sections_from sections_at files_from first_at first_place files.ahead
    row_at judged te_of module_of shifted found head_item heads_from head_count word_of item_of entries_from blocks_from
five_reads any = refl

-- they are of edition 2 (request #109)
pub small_reads_2 : reading2 (small 0xFFF80000 0xFFF80040 (setting_bytes 0 1)) ≡ small_reading
small_reads_2 = read2_as (small 0xFFF80000 0xFFF80040 (setting_bytes 0 1)) small_reading small_reads refl (omega arith)

pub six_reads_2 : reading2 (later 80 6 0x0201 (setting_bytes 0 1)) ≡ later_reading 0x0201
six_reads_2 = read2_as (later 80 6 0x0201 (setting_bytes 0 1)) (later_reading 0x0201) six_reads refl (omega arith)

pub five_reads_2 : (any : ℕ) → reading2 (later 79 5 any (setting_bytes 0 1)) ≡ later_reading 0
five_reads_2 any = read2_as (later 79 5 any (setting_bytes 0 1)) (later_reading 0) (five_reads any) refl (omega arith)
