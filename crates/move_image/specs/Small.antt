-- The small image, moved: its base word, its patch word and its module's two words are others, and no other byte is.
-- Assumes nothing.
use Rattle.std.specs.Prelude.{◌≡◌, ℕ, List, negsuc, refl}
use Rattle.std.proofs.Common.{ap, ◌∙◌}
use Rattle.facts.specs.Fact.{test}
use Rattle.words.specs.Le.{le}
use Rattle.words.specs.Put.{digit, put, add}
use Rattle.words.specs.Number.{number, zeros}
use Rattle.table.specs.Entry.{place_of}
use Rattle.table.specs.Passes.{place}
use Rattle.facts.specs.Fact.{all_below}
use Rattle.volume.specs.Volume.{sum_bytes, file_sum}
use Rattle.items.specs.Items.{words_in}
use Rattle.inside_files.specs.Parts.{sections_from, sections_at, files_from, first_at, first_place}
use Rattle.inside_files.specs.Parts as files
use Rattle.inside_rows.specs.Rows.{row_at, judged}
use Rattle.inside_modules.specs.Modules.{te_of, module_of}
use Rattle.inside_places.specs.Places.{shifted, found}
use Rattle.inside_blocks.specs.Blocks.{head_item, heads_from, head_count, word_of, item_of, entries_from, blocks_from, items}
use Rattle.inside_walk.specs.Whole.{module_in, item_for, spread, walked}
use Rattle.inside_judge.specs.Rules.{patch_from}
use Rattle.reading_rules.specs.Words.{met}
use Rattle.answers.specs.declared.Reading.{Reading}
use Rattle.reading_rules.specs.Reading.{reading2}
use Rattle.reading_rules.specs.Small.{small, setting_bytes, small_reading, small_reads_2}
use Rattle.moves.specs.Moves.{difference, moved_to}
use Rattle.move_image.specs.Moving.{move_to, moved_image}
use Rattle.move_answer.specs.MoveAnswer.{accepted_move}

abbrev maker : List ℕ
maker = small 0xFFF80000 0xFFF80040 (setting_bytes 0 1)

pub small_moves : (a b : ℕ)
    → move_to (small 0xFFF80000 0xFFF80040 (setting_bytes a b)) small_reading 0x00100000 ≡ small 0x00100000 0x00100040 (setting_bytes a b)
unfolding small number zeros digit le test place_of place move_to moved_to difference add put met words_in patch_from all_below sum_bytes
    file_sum walked spread module_in item_for items sections_from sections_at files_from first_at first_place files.ahead row_at judged te_of module_of
    shifted found head_item heads_from head_count word_of item_of entries_from blocks_from
small_moves a b = refl

pub small_moved : moved_image maker 0x00100000 ≡ small 0x00100000 0x00100040 (setting_bytes 0 1)
unfolding moved_image
small_moved = ap (λ (r : Reading). move_to maker r 0x00100000) small_reads_2 ∙ small_moves 0 1

-- how far it goes: down by 4,293,394,432
pub small_move : accepted_move (reading2 maker) 0x00100000 ≡ record { number = 0; index = 0; distance = negsuc 4293394431 }
small_move = ap (λ (r : Reading). accepted_move r 0x00100000) small_reads_2
