-- A small volume, computed: one file with a TE module, whose image base has 8 bytes and which has one relocation word of 4.
-- Assumes nothing.
use Rattle.std.specs.Prelude.{[], ◌∷◌, ◌≡◌, refl}
use Rattle.facts.specs.Fact.{test, all_below}
use Rattle.facts.specs.First.{first_fault, first_from}
use Rattle.words.specs.Le.{le}
use Rattle.words.specs.Put.{digit}
use Rattle.words.specs.Number.{number, zeros}
use Rattle.volume.specs.Volume.{sum_bytes, file_sum}
use Rattle.inside_files.specs.Parts.{sections_from, sections_at, files_from, first_at, first_place}
use Rattle.inside_files.specs.Parts as files
use Rattle.inside_rows.specs.Rows.{row_at, judged}
use Rattle.inside_modules.specs.Modules.{from_kind, from_optional, from_pe, pe_of, te_of, module_of}
use Rattle.inside_places.specs.Places.{row_of, found_in, shifted, found}
use Rattle.inside_blocks.specs.Blocks.{head_item, heads_from, head_count, word_of, item_of, entries_from, blocks_from, items}
use Rattle.inside_walk.specs.Whole.{module_in}
use Rattle.inside_walk.specs.Examples.{file_head, te, volume}
use Rattle.inside_list.specs.Inventory.{entry, word_entries, module_entries, file_of, entries_of, inventory}

pub one_module : inventory (volume 0x5A56) 124 0 ≡ entry 1 32 ∷ entry 2 56 ∷ entry 4 76 ∷ entry 5 112 ∷ []
unfolding volume te file_head number digit zeros le test all_below sum_bytes file_sum sections_from sections_at files_from first_at first_place
    files.ahead row_at judged from_kind from_optional from_pe pe_of te_of module_of row_of found_in shifted found head_item heads_from head_count
    word_of item_of entries_from blocks_from items module_in word_entries module_entries file_of entries_of inventory
one_module = refl
