-- A small image with a PE32 and a PE32+ module, both with relocations, that reads: the small image's volume, header file, table and region,
-- and after them one file with a section for each module.
-- Assumes nothing.
use Rattle.std.specs.Prelude.{ℕ, suc, ◌+◌, ◌*◌, List, [], ◌∷◌, ◌++◌, ◌≡◌, refl, length}
use Rattle.facts.specs.Fact.{test, all_below}
use Rattle.facts.specs.First.{first_fault, first_from}
use Rattle.facts.specs.Rules.{run}
use Rattle.words.specs.Le.{le}
use Rattle.words.specs.Put.{digit}
use Rattle.words.specs.Number.{number, zeros}
use Rattle.volume.specs.Volume.{guid, sum_words, sum_bytes, file_sum}
use Rattle.header.specs.Header.{component, extended_number}
use Rattle.table.specs.Entry.{place_of}
use Rattle.table.specs.Passes.{place}
use Rattle.items.specs.Items.{each, apart_from}
use Rattle.inside_files.specs.Parts.{sections_from, sections_at, files_from, first_at, first_place}
use Rattle.inside_files.specs.Parts as files
use Rattle.inside_rows.specs.Rows.{row_at, judged}
use Rattle.inside_modules.specs.Modules.{from_kind, from_optional, from_pe, pe_of, module_of}
use Rattle.inside_places.specs.Places.{row_of, found_in, found}
use Rattle.inside_blocks.specs.Blocks.{head_item, heads_from, head_count, word_of, item_of, entries_from, blocks_from, items}
use Rattle.inside_walk.specs.Whole.{module_in, item_for, spread, walked}
use Rattle.inside_judge.specs.Rules.{patch_from}
use Rattle.answers.specs.declared.Reading.{Reading}
use Rattle.reading_rules.specs.Reading.{identity_at, accepted, rules, reading, f, p}
use Rattle.reading_rules.specs.Small.{volume, file, header, table, file_head, region, setting_bytes}

-- 88 bytes, what a PE module begins with: the first header, which says that the next one follows it; that one's mark, how many section
-- headers there are, and the length of the optional header
abbrev pe_head : ℕ → List ℕ
pe_head optional =
    number 2 0x5A4D
    ++ (zeros 58 ++ (number 4 64 ++ (number 4 0x4550 ++ (zeros 2 ++ (number 2 1 ++ (zeros 12 ++ (number 2 optional ++ zeros 2)))))))

-- 52 bytes, six directories, of which the last has 12 bytes of relocations at 4096
abbrev directories : List ℕ
directories = number 4 6 ++ (zeros 40 ++ (number 4 4096 ++ number 4 12))

-- 40 bytes, a section header: its data, of so many bytes, stands there and is at 4096 in memory
abbrev section_head : ℕ → ℕ → List ℕ
section_head raw ptr = zeros 12 ++ (number 4 4096 ++ (number 4 raw ++ (number 4 ptr ++ zeros 16)))

-- 12 bytes, a relocation block for the page at 4096 with one entry, of this type, for the word after it
abbrev block : ℕ → List ℕ
block type = number 4 4096 ++ (number 4 12 ++ (number 1 0x0C ++ (number 1 (16 * type) ++ zeros 2)))

-- 288 bytes: an image base of 4 bytes, and a word of type 3
abbrev pe32 : ℕ → List ℕ
pe32 base =
    pe_head 144
    ++ (number 2 0x10B
    ++ (zeros 26
    ++ (number 4 base ++ (zeros 60 ++ (directories ++ (section_head 16 272 ++ (block 3 ++ number 4 (base + 284))))))))

-- 308 bytes: an image base of 8 bytes, and a word of type 10
abbrev pe32_plus : ℕ → List ℕ
pe32_plus base =
    pe_head 160
    ++ (number 2 0x20B
    ++ (zeros 22
    ++ (number 8 base ++ (zeros 76 ++ (directories ++ (section_head 20 288 ++ (block 10 ++ number 8 (base + 300))))))))

-- the file of both: 24 bytes of header, each module after 4 of section header; 4 up to the volume's end
abbrev pair_file : ℕ → List ℕ
pair_file base =
    file_head 131 7 628
    ++ (number 3 292 ++ (number 1 0x10 ++ (pe32 (base + 300) ++ (number 3 312 ++ (number 1 0x10 ++ (pe32_plus (base + 592) ++ zeros 4))))))

-- the image of 904 bytes
unfoldable pub pair : ℕ → ℕ → List ℕ → List ℕ
pair base word part =
    volume 904 0x6D7B ++ (file 176 116 92 ++ (header 72 3 904 base 216 ++ (table 640 ++ (region word part ++ pair_file base))))

-- what it gives
abbrev pub pair_reading : Reading
pair_reading =
    record {
      number = 0;
      index = 0;
      H = 100;
      component = 1;
      identity = record { image = 0x31302D5441455254; revision = 0x01020304; extended = 0 };
      base = 0xFFF80000;
      c = 216;
      z = 48;
      n = 1;
      E = 188;
    }

pub pair_reads : reading (pair 0xFFF80000 0xFFF80040 (setting_bytes 0 1)) ≡ pair_reading
unfolding pair number zeros digit le reading rules run f p test all_below first_fault first_from sum_words sum_bytes file_sum component extended_number place_of place identity_at accepted
    each apart_from patch_from walked spread module_in item_for items sections_from sections_at files_from first_at first_place files.ahead
    row_at judged from_kind from_optional from_pe pe_of module_of row_of found_in found head_item heads_from head_count word_of item_of entries_from
    blocks_from
pair_reads = refl
