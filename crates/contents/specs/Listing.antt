-- Request #107: what an image holds, as a list of numbers: every word of a move, and each module with its file and its section.
-- Assumes nothing.
use Rattle.std.specs.Prelude.{ℕ, ◌+◌, ◌*◌, cond, List, [], ◌∷◌, ◌++◌, ◌≡◌, length}
use Rattle.facts.specs.Fact.{◌≤?◌, test}
use Rattle.facts.specs.Rules.{answer}
use Rattle.words.specs.Le.{le}
use Rattle.words.specs.Put.{put_all}
use Rattle.items.specs.declared.Item.{Item}
use Rattle.inside_judge.specs.Rules.{patch_items}
use Rattle.answers.specs.declared.Reading.{Reading}
use Rattle.reading_rules.specs.Reading.{entries_at, file_at, reading2}
use Rattle.answers.specs.After.{after_reading, unless_refused}
use Rattle.inside_list.specs.declared.Counts.{Counts}
use Rattle.inside_list.specs.Inventory.{entry, inventory, counts_of}
use Rattle.answers.specs.declared.Listed.{Listed}

-- the places of these items with one code
unfoldable pub coded : ℕ → List Item → List ℕ
coded code [] = []
coded code (x ∷ l) = entry code x.at ∷ coded code l

-- the words that the tables name: the base word with code 7, each patch word with code 8, in the table's order
abbrev pub table_entries : List ℕ → Reading → List ℕ
table_entries xs r = entry 7 (r.H + 28) ∷ coded 8 (patch_items xs (entries_at r) r.n)

-- then the modules of the first volume, with codes 1 to 6
unfoldable pub entries_for : List ℕ → Reading → List ℕ
entries_for xs r = table_entries xs r ++ inventory xs (le 8 xs 32) (file_at r)

-- the list of an image that reads
unfoldable pub listing : List ℕ → List ℕ
listing xs = entries_for xs (reading2 xs)

-- a refusal other than 20: its number and index, all else zero
abbrev pub refused_list : ℕ → ℕ → Listed
refused_list number index = record { number = number; index = index; modules = 0; words = 0; entries = 0 }

-- an answer that carries counts
abbrev pub counted : ℕ → Counts → Listed
counted number n = record { number = number; index = 0; modules = n.modules; words = n.words; entries = n.entries }

-- the image's refusals, then 20 ROOM: the list has four bytes for each entry; the counts are told either way
unfoldable pub contents : List ℕ → ℕ → Listed
contents xs room =
    after_reading refused_list (reading2 xs)
    (answer (counted (cond (test (4 * length (listing xs) ≤? room)) 0 20) (counts_of (listing xs))))

-- the list afterwards: the entries from its start on, four bytes each, and what it held after them; what it held where the call is refused
unfoldable pub contents_in : List ℕ → List ℕ → List ℕ
contents_in xs bytes = unless_refused (contents xs (length bytes)).number (put_all 4 bytes 0 (listing xs)) bytes

-- the promise of `list_contents`: the answer, and the list afterwards
abbrev pub Lists : List ℕ → List ℕ → Listed → List ℕ → Type 0
Lists xs bytes a l = (a ≡ contents xs (length bytes)) × (l ≡ contents_in xs bytes)
