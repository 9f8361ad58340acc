-- One block of two entries, computed: the block at 40, a word of 4 bytes at 56, an entry that is passed over; and the same module where its
-- section's data ends too early for the word.
-- Assumes nothing.
use Rattle.std.specs.Prelude.{ℕ, List, [], ◌∷◌, ◌++◌, ◌≡◌, refl}
use Rattle.facts.specs.Fact.{test}
use Rattle.facts.specs.First.{first_fault, first_from}
use Rattle.words.specs.Le.{le}
use Rattle.words.specs.Put.{digit}
use Rattle.words.specs.Number.{number, zeros}
use Rattle.items.specs.Items.{keep, word, skip, lost}
use Rattle.inside_rows.specs.declared.Module.{Module}
use Rattle.inside_rows.specs.declared.ModuleKind.TheVariants.{Pe32}
use Rattle.inside_rows.specs.Rows.{row_at}
use Rattle.inside_places.specs.Places.{row_of, found_in, found}
use Rattle.inside_blocks.specs.Blocks.{word_of, item_of, entries_from, blocks_from}

-- a section header with this size of data, a block, a word
pub bytes : ℕ → List ℕ
bytes raw =
    zeros 12 ++ (number 4 100 ++ (number 4 raw ++ (number 4 40 ++ (zeros 16
    ++ (number 4 100 ++ (number 4 12 ++ (number 2 0x3010 ++ (number 2 0 ++ (zeros 4 ++ (number 4 0x04030201 ++ zeros 4))))))))))

pub one : Module
one =
    record { kind = Pe32; lo = 0; hi = 64; pe = 0; base = 0; width = 0; table = 0; rows = 1; stripped = 40; dir = 100; size = 12 }

pub example : blocks_from (bytes 24) one one.size 0 ≡ keep 40 12 ∷ word 56 4 ∷ skip ∷ []
unfolding bytes number digit zeros one blocks_from entries_from item_of word_of found found_in row_of row_at first_fault first_from test le
example = refl

pub outside : blocks_from (bytes 16) one one.size 0 ≡ keep 40 12 ∷ lost ∷ skip ∷ []
unfolding bytes number digit zeros one blocks_from entries_from item_of word_of found found_in row_of row_at first_fault first_from test le
outside = refl
