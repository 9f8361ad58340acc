-- Request #107: what the first volume holds, as a list of numbers: each module with its file and its words, in the order of the walk.
-- Assumes nothing.
use Rattle.inside_rows.specs.Rows.{pe_kind, te_kind, module_number}
use Rattle.std.specs.Prelude.{ℕ, ◌+◌, ◌*◌, ◌/◌, ◌%◌, cond, List, [], ◌∷◌, ◌++◌, eqb, ltb, length}
use Rattle.facts.specs.Fact.{Fact, ◌≡?◌, ◌or◌, test}
use Rattle.items.specs.declared.Item.{Item}
use Rattle.items.specs.Items.{word, word_kind, kind_number}
use Rattle.inside_files.specs.declared.Part.{Part}
use Rattle.inside_files.specs.Parts.{parts, header_part, part_number}
use Rattle.inside_rows.specs.declared.Module.{Module}
use Rattle.inside_blocks.specs.Blocks.{items}
use Rattle.inside_walk.specs.Whole.{module_in}
use Rattle.inside_list.specs.declared.Counts.{Counts}

-- a place with a code: 1 a file, 2 a module (its section's header), 3 and 4 an image base of 4 and 8 bytes, 5 and 6 a relocation word of 4
-- and 8 bytes
abbrev pub entry : ℕ → ℕ → ℕ
entry code at = at + 16777216 * code

-- the words among a module's items, the first of which is its image base: c is 3 up to that, then 5
unfoldable pub word_entries : ℕ → List Item → List ℕ
word_entries c [] = []
word_entries c (x ∷ l) = cond (eqb (kind_number x.kind) word_kind) (entry (c + x.len / 8) x.at ∷ word_entries 5 l) (word_entries c l)

-- a PE32 or TE module
abbrev pub is_module : Module → Fact
is_module m = module_number m.kind ≡? pe_kind or module_number m.kind ≡? te_kind

-- the module m of the section at `at` of this file, if it is one: the file, the section, the words
unfoldable pub module_entries : List ℕ → ℕ → ℕ → Module → List ℕ
module_entries xs file at m = cond (test (is_module m)) (entry 1 file ∷ entry 2 at ∷ word_entries 3 (items xs m)) []

-- the file at hand once p is met: p, if it is a file's header
unfoldable pub file_of : ℕ → Part → ℕ
file_of file p = cond (eqb (part_number p.kind) header_part) p.at file

-- the modules of a list of parts, which go on in this file
unfoldable pub entries_of : List ℕ → ℕ → List Part → List ℕ
entries_of xs file [] = []
entries_of xs file (p ∷ l) = module_entries xs (file_of file p) p.at (module_in xs p) ++ entries_of xs (file_of file p) l

-- those of the volume of v bytes whose header file stands at f
unfoldable pub inventory : List ℕ → ℕ → ℕ → List ℕ
inventory xs v f = entries_of xs f (parts xs v f)

-- ---- what such a list says

abbrev pub code_of : ℕ → ℕ
code_of e = e / 16777216

abbrev pub place_of : ℕ → ℕ
place_of e = e % 16777216

-- the places with this code
unfoldable pub places_of : ℕ → List ℕ → List ℕ
places_of code [] = []
places_of code (e ∷ l) = cond (eqb (code_of e) code) (place_of e ∷ places_of code l) (places_of code l)

-- how many bytes a word with this code has
unfoldable pub width_of : ℕ → ℕ
width_of code = cond (test (code ≡? 4 or code ≡? 6)) 8 4

-- the words: every code above 2 is one's
unfoldable pub words_from : List ℕ → List Item
words_from [] = []
words_from (e ∷ l) = cond (ltb 2 (code_of e)) (word (place_of e) (width_of (code_of e)) ∷ words_from l) (words_from l)

-- how many modules, words and entries it has
abbrev pub counts_of : List ℕ → Counts
counts_of l = record { modules = length (places_of 2 l); words = length (words_from l); entries = length l }
