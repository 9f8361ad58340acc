-- The small image's list: its base word, its patch word, then its module with its file, its section, its image base and its relocation word.
-- Assumes nothing.
use Rattle.std.specs.Prelude.{ℕ, List, [], ◌∷◌, ◌≡◌, refl}
use Rattle.std.proofs.Common.{ap, ◌∙◌}
use Rattle.facts.specs.Fact.{test, all_below}
use Rattle.words.specs.Le.{le}
use Rattle.words.specs.Put.{digit}
use Rattle.words.specs.Number.{number, zeros}
use Rattle.volume.specs.Volume.{sum_bytes, file_sum}
use Rattle.table.specs.Entry.{place_of}
use Rattle.table.specs.Passes.{place}
use Rattle.inside_files.specs.Parts.{sections_from, sections_at, files_from, first_at, first_place}
use Rattle.inside_files.specs.Parts as files
use Rattle.inside_rows.specs.Rows.{row_at, judged}
use Rattle.inside_modules.specs.Modules.{te_of, module_of}
use Rattle.inside_places.specs.Places.{shifted, found}
use Rattle.inside_blocks.specs.Blocks.{head_item, heads_from, head_count, word_of, item_of, entries_from, blocks_from, items}
use Rattle.inside_walk.specs.Whole.{module_in}
use Rattle.inside_judge.specs.Rules.{patch_from}
use Rattle.answers.specs.declared.Reading.{Reading}
use Rattle.answers.specs.After.{after_reading}
use Rattle.facts.specs.Rules.{run}
use Rattle.reading_rules.specs.Small.{small, setting_bytes, small_reading, small_reads_2}
use Rattle.inside_list.specs.Inventory.{entry, word_entries, module_entries, file_of, entries_of, inventory, places_of, width_of, words_from}
use Rattle.contents.specs.Listing.{coded, entries_for, listing, contents}

abbrev maker : List ℕ
maker = small 0xFFF80000 0xFFF80040 (setting_bytes 0 1)

abbrev pub small_list : List ℕ
small_list = entry 7 128 ∷ entry 8 264 ∷ entry 1 272 ∷ entry 2 296 ∷ entry 4 316 ∷ entry 5 352 ∷ []

entries_small : entries_for maker small_reading ≡ small_list
unfolding small number zeros digit le test place_of place patch_from all_below sum_bytes file_sum module_in items sections_from sections_at files_from
    first_at first_place files.ahead row_at judged te_of module_of shifted found head_item heads_from head_count word_of item_of entries_from
    blocks_from word_entries module_entries file_of entries_of inventory coded entries_for
entries_small = refl

pub small_list_lem : listing maker ≡ small_list
unfolding listing
small_list_lem = ap (λ (r : Reading). entries_for maker r) small_reads_2 ∙ entries_small

-- with 24 bytes it is listed; with 23 it isn't, and the counts are told
pub small_contents : contents maker 24 ≡ record { number = 0; index = 0; modules = 1; words = 4; entries = 6 }
unfolding contents after_reading run test places_of width_of words_from
small_contents = rw (small_reads_2, small_list_lem)

pub small_room : contents maker 23 ≡ record { number = 20; index = 0; modules = 1; words = 4; entries = 6 }
unfolding contents after_reading run test places_of width_of words_from
small_room = rw (small_reads_2, small_list_lem)
