-- Document 01, "Moving", and request #107: the words of a move.
-- Assumes nothing.
use Rattle.std.specs.Prelude.{ℕ, ◌+◌, List, ◌∷◌, ◌++◌}
use Rattle.words.specs.Le.{le}
use Rattle.moves.specs.Moves.{Words}
use Rattle.items.specs.declared.Item.{Item}
use Rattle.items.specs.Items.{word, words_in, listed}
use Rattle.inside_walk.specs.Whole.{walked}
use Rattle.inside_judge.specs.Rules.{patch_items}
use Rattle.answers.specs.declared.Reading.{Reading}
use Rattle.reading_rules.specs.Reading.{entries_at, file_at}

-- the base word, the patch words in table order, then all that the walk over files, sections and modules meets
unfoldable pub met : List ℕ → Reading → List Item
met xs r = word (r.H + 28) 4 ∷ (patch_items xs (entries_at r) r.n ++ walked xs (le 8 xs 32) (file_at r))

-- the words of a move are the words among these: base word, patch words, and for each module in file order its image base and its
-- relocation words in table order
abbrev pub words_of : List ℕ → Reading → Words
words_of xs r = listed (words_in (met xs r))
