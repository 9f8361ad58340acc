-- Small volumes, computed: a TE module in a file of its own, and a free end; the same where the module's mark is another; and a PE32
-- module.
-- Assumes nothing.
use Rattle.std.specs.Prelude.{ℕ, List, [], ◌∷◌, ◌++◌, ◌≡◌, refl}
use Rattle.facts.specs.Fact.{test, all_below}
use Rattle.facts.specs.First.{first_fault, first_from}
use Rattle.words.specs.Le.{le}
use Rattle.words.specs.Put.{digit}
use Rattle.words.specs.Number.{number, zeros}
use Rattle.volume.specs.Volume.{sum_bytes, file_sum}
use Rattle.items.specs.Items.{keep, word, skip, broken}
use Rattle.inside_files.specs.Parts.{sections_from, sections_at, files_from, first_at, first_place}
use Rattle.inside_files.specs.Parts as files
use Rattle.inside_rows.specs.Rows.{row_at, judged}
use Rattle.inside_modules.specs.Modules.{from_kind, from_optional, from_pe, pe_of, te_of, module_of}
use Rattle.inside_places.specs.Places.{row_of, found_in, shifted, found}
use Rattle.inside_blocks.specs.Blocks.{head_item, heads_from, head_count, word_of, item_of, entries_from, blocks_from, items}
use Rattle.inside_walk.specs.Whole.{module_in, item_for, spread, walked}

-- a file's header: its sum, type and size
unfoldable pub file_head : ℕ → ℕ → ℕ → List ℕ
file_head sum type size = zeros 16 ++ (number 1 sum ++ (zeros 1 ++ (number 1 type ++ (zeros 1 ++ (number 3 size ++ zeros 1)))))

-- a TE module of 56 bytes with nothing stripped but 40 bytes: its header, a block at 40 with one entry, a word at 52
unfoldable pub te : ℕ → List ℕ
te mark =
    number 2 mark ++ (zeros 4 ++ (number 2 40 ++ (zeros 8 ++ (number 8 0xFFF8003C ++ (number 4 40 ++ (number 4 12 ++ (zeros 8
    ++ (number 4 0 ++ (number 4 12 ++ (number 2 0x3034 ++ (number 2 0 ++ number 4 0xFFF80040)))))))))))

-- the header file of 28 bytes with its section of 4, the module's file of 84 bytes at 32, from 120 on a free end of 4
unfoldable pub volume : ℕ → List ℕ
volume mark =
    file_head 0 2 28 ++ (number 3 4 ++ (number 1 0x19 ++ (zeros 4
    ++ (file_head 165 7 84 ++ (number 3 60 ++ (number 1 0x12 ++ (te mark ++ (zeros 4 ++ number 4 0xFFFFFFFF))))))))

pub one_module : walked (volume 0x5A56) 124 0
    ≡ keep 32 24
    ∷ keep 56 4
    ∷ keep 60 16
    ∷ word 76 8
    ∷ keep 84 16
    ∷ keep 100 12
    ∷ word 112 4
    ∷ skip
    ∷ keep 120 4
    ∷ []
unfolding volume te file_head number digit zeros le test all_below sum_bytes file_sum sections_from sections_at files_from first_at first_place
    files.ahead row_at judged from_kind from_optional from_pe pe_of te_of module_of row_of found_in shifted found head_item heads_from head_count
    word_of item_of entries_from blocks_from items module_in item_for spread walked
one_module = refl

pub other_mark : walked (volume 0x5A57) 124 0 ≡ keep 32 24 ∷ broken 56 4 ∷ keep 120 4 ∷ []
unfolding volume te file_head number digit zeros le test all_below sum_bytes file_sum sections_from sections_at files_from first_at first_place
    files.ahead row_at judged from_kind from_optional from_pe pe_of te_of module_of row_of found_in shifted found head_item heads_from head_count
    word_of item_of entries_from blocks_from items module_in item_for spread walked
other_mark = refl

-- a PE32 module of 292 bytes: its headers up to 272 with one section header, whose 20 bytes of data are a block and a word of 8 bytes
pub pe : List ℕ
pe =
    number 2 0x5A4D ++ (zeros 58 ++ (number 4 64
    ++ (number 4 0x4550 ++ (zeros 2 ++ (number 2 1 ++ (zeros 12 ++ (number 2 144 ++ (zeros 2
    ++ (number 2 0x10B ++ (zeros 26 ++ (number 4 0xFFF80000 ++ (zeros 60 ++ (number 4 6 ++ (zeros 40 ++ (number 4 0x1000 ++ (number 4 12
    ++ (zeros 12 ++ (number 4 0x1000 ++ (number 4 20 ++ (number 4 272 ++ (zeros 16
    ++ (number 4 0x1000 ++ (number 4 12 ++ (number 2 0xA00C ++ (number 2 0 ++ zeros 8)))))))))))))))))))))))))

pub pe_items : items pe (module_of pe 0x10 0 292)
    ≡ keep 0 64
    ∷ keep 64 52
    ∷ word 116 4
    ∷ keep 120 152
    ∷ keep 272 12
    ∷ word 284 8
    ∷ skip
    ∷ []
unfolding pe number digit zeros le test all_below first_fault first_from row_at judged from_kind from_optional from_pe pe_of module_of row_of
    found_in found head_item heads_from head_count word_of item_of entries_from blocks_from items
pe_items = refl
