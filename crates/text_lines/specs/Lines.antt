-- A line of the report, and what it is to write text into a lent buffer.
-- Assumes nothing.
use Rattle.std.specs.Prelude.{ℕ, ◌+◌, List, ◌++◌, ◌≡◌, length}
use Rattle.std.proofs.lemmas.List.Edits.{sets}
use Rattle.text_lines.specs.Text.{ascii, decimal, hex_digits}

-- a word, what stands after it, and the line feed
abbrev pub line_of : List ℕ → List ℕ → List ℕ
line_of word rest = word ++ (rest ++ ascii "\n")

-- a word and a number
abbrev pub line : List ℕ → ℕ → List ℕ
line word n = line_of word (decimal n)

-- a word and a number in eight hex digits
abbrev pub hex_line : List ℕ → ℕ → List ℕ
hex_line word n = line_of word (hex_digits 8 n)

-- the buffer held l and holds m: from `at` on the text, and every other byte what it was; r is the place after the text
pub record Wrote (l m : List ℕ) (at : ℕ) (text : List ℕ) (r : ℕ) : Type 0 where
  pub bytes : m ≡ sets l at text
  pub after : r ≡ at + length text
