-- Document 01, "Moving": what is added to which words (`words_of`, of `reading_rules`).
-- Assumes nothing.
use Rattle.std.specs.Prelude.{ℕ, List}
use Rattle.answers.specs.declared.Reading.{Reading}
use Rattle.reading_rules.specs.Reading.{reading2}
use Rattle.reading_rules.specs.Words.{words_of}
use Rattle.moves.specs.Moves.{Words, difference, moved}

-- the image at another base: the difference of the bases is added to each of these words, and wraps
unfoldable pub move_to : List ℕ → Reading → ℕ → List ℕ
move_to xs r base = moved xs (words_of xs r) (difference r.base base)

-- the words of a move of an image that reads
abbrev pub moved_words : List ℕ → Words
moved_words xs = words_of xs (reading2 xs)

-- an image that reads, at this base
unfoldable pub moved_image : List ℕ → ℕ → List ℕ
moved_image xs base = move_to xs (reading2 xs) base
