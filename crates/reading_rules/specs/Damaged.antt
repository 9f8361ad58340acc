-- The small image with one byte another, refused: with 22 where bits 30..28 of its entry are cleared; with 25, 26 and 27 for its module.
-- Assumes nothing.
use Rattle.std.specs.Prelude.{ℕ, suc, ◌+◌, List, [], ◌∷◌, ◌++◌, ◌≡◌, refl, length, take, drop}
use Rattle.facts.specs.Fact.{test, all_below}
use Rattle.facts.specs.First.{first_fault, first_from}
use Rattle.facts.specs.Rules.{run}
use Rattle.words.specs.Le.{le}
use Rattle.words.specs.Put.{digit}
use Rattle.words.specs.Number.{number, zeros}
use Rattle.volume.specs.Volume.{guid, sum_words, sum_bytes, file_sum}
use Rattle.header.specs.Header.{component, extended_number}
use Rattle.items.specs.Items.{each, apart_from}
use Rattle.inside_files.specs.Parts.{sections_from, sections_at, files_from, first_at, first_place}
use Rattle.inside_files.specs.Parts as files
use Rattle.inside_rows.specs.Rows.{row_at, judged}
use Rattle.inside_modules.specs.Modules.{te_of, module_of}
use Rattle.inside_places.specs.Places.{shifted, found}
use Rattle.inside_blocks.specs.Blocks.{head_item, heads_from, head_count, word_of, item_of, entries_from, blocks_from, items}
use Rattle.inside_walk.specs.Whole.{module_in, item_for, spread, walked}
use Rattle.inside_judge.specs.Rules.{patch_from}
use Rattle.table.specs.Entry.{place_of}
use Rattle.table.specs.Passes.{place}
use Rattle.reading_rules.specs.Reading.{refusal, identity_at, accepted, rules, reading, f, p}
use Rattle.reading_rules.specs.Small.{small, setting_bytes}

-- the small image with this byte at `at`
abbrev pub with_byte : ℕ → ℕ → List ℕ
with_byte at b = let xs = small 0xFFF80000 0xFFF80040 (setting_bytes 0 1) in take at xs ++ (b ∷ drop (suc at) xs)

-- its entry, at 184..187, is 0x8FFFFFA0: 96 bytes back from the end is a place in it all the same
abbrev pub damaged : List ℕ
damaged = with_byte 187 0x8F

pub damaged_refused : reading damaged ≡ refusal 22 0
unfolding small number zeros digit le reading rules run f p test all_below first_fault first_from sum_words sum_bytes file_sum component place_of place
damaged_refused = refl

-- the module's mark is none
pub mark_refused : reading (with_byte 300 0x57) ≡ refusal 25 0
unfolding small number zeros digit le reading rules run f p test all_below first_fault first_from sum_words sum_bytes file_sum component extended_number place_of place identity_at accepted
    each apart_from patch_from walked spread module_in item_for items sections_from sections_at files_from first_at first_place files.ahead
    row_at judged te_of module_of shifted found head_item heads_from head_count word_of item_of entries_from blocks_from
mark_refused = refl

-- the entry names a word in its own block
pub inside_block_refused : reading (with_byte 348 0x28) ≡ refusal 26 0
unfolding small number zeros digit le reading rules run f p test all_below first_fault first_from sum_words sum_bytes file_sum component extended_number place_of place identity_at accepted
    each apart_from patch_from walked spread module_in item_for items sections_from sections_at files_from first_at first_place files.ahead
    row_at judged te_of module_of shifted found head_item heads_from head_count word_of item_of entries_from blocks_from
inside_block_refused = refl

-- the entry's type is 4
pub other_type_refused : reading (with_byte 349 0x40) ≡ refusal 27 0
unfolding small number zeros digit le reading rules run f p test all_below first_fault first_from sum_words sum_bytes file_sum component extended_number place_of place identity_at accepted
    each apart_from patch_from walked spread module_in item_for items sections_from sections_at files_from first_at first_place files.ahead
    row_at judged te_of module_of shifted found head_item heads_from head_count word_of item_of entries_from blocks_from
other_type_refused = refl
