-- Request #107: all that the walk over a volume meets is one list of items. What is refused, which words move and which bytes are looked at
-- is said of this list.
-- Assumes nothing.
use Rattle.std.specs.Prelude.{ℕ, ◌+◌, cond, List, [], ◌∷◌, ◌++◌, eqb, length, get_or}
use Rattle.facts.specs.Fact.{Fact, ◌≤?◌, ◌≡?◌, deny, ◌and◌, ◌or◌}
use Rattle.moves.specs.Moves.{Words}
use Rattle.items.specs.declared.Item.{Item}
use Rattle.items.specs.declared.Kind.{Kind}
use Rattle.items.specs.declared.Kind.TheVariants.{End, Kept, Word, Skipped, Alien, Broken, Lost}

-- ---- the kinds of items, by their numbers, which checks compare

abbrev pub kind_number : Kind → ℕ
kind_number End = 0
kind_number Kept = 1
kind_number Word = 2
kind_number Skipped = 3
kind_number Alien = 4
kind_number Broken = 5
kind_number Lost = 6

-- nothing is left
abbrev pub end_kind : ℕ
end_kind = kind_number End

-- bytes that are looked at
abbrev pub kept_kind : ℕ
kept_kind = kind_number Kept

-- a word that moves
abbrev pub word_kind : ℕ
word_kind = kind_number Word

-- an entry that is passed over
abbrev pub skip_kind : ℕ
skip_kind = kind_number Skipped

-- an entry of another type
abbrev pub alien_kind : ℕ
alien_kind = kind_number Alien

-- what isn't there as it should be
abbrev pub broken_kind : ℕ
broken_kind = kind_number Broken

-- a word outside its module
abbrev pub lost_kind : ℕ
lost_kind = kind_number Lost

-- ---- the items

-- bytes that are looked at: a header, a relocation block, the free end
abbrev pub keep : ℕ → ℕ → Item
keep at len = record { kind = Kept; at = at; len = len }

-- a word that moves
abbrev pub word : ℕ → ℕ → Item
word at len = record { kind = Word; at = at; len = len }

-- an entry of type 0
abbrev pub skip : Item
skip = record { kind = Skipped; at = 0; len = 0 }

-- an entry of a type that isn't known
abbrev pub alien : Item
alien = record { kind = Alien; at = 0; len = 0 }

-- no file, section, module or block stands where one should; len bytes there were looked at
abbrev pub broken : ℕ → ℕ → Item
broken at len = record { kind = Broken; at = at; len = len }

-- a word that lies outside its module
abbrev pub lost : Item
lost = record { kind = Lost; at = 0; len = 0 }

-- the check p of each item
unfoldable pub each : (Item → Fact) → List Item → Fact
each p [] = 0 ≤? 0
each p (x ∷ l) = p x and each p l

-- x and y share no byte, or neither is a word
abbrev pub apart : Item → Item → Fact
apart x y = (deny (kind_number x.kind ≡? word_kind) and deny (kind_number y.kind ≡? word_kind)) or x.at + x.len ≤? y.at or y.at + y.len ≤? x.at

-- each of l is apart from every earlier one, those of `before` standing before l
unfoldable pub apart_from : List Item → List Item → Fact
apart_from before [] = 0 ≤? 0
apart_from before (x ∷ l) = each (apart x) before and apart_from (before ++ (x ∷ [])) l

-- a word of 4 or 8 bytes ends by n; what is no word isn't judged
abbrev pub inside : ℕ → Item → Fact
inside n x = deny (kind_number x.kind ≡? word_kind) or (x.at + x.len ≤? n and (x.len ≡? 4 or x.len ≡? 8))

-- the words alone
unfoldable pub words_in : List Item → List Item
words_in [] = []
words_in (x ∷ l) = cond (eqb (kind_number x.kind) word_kind) (x ∷ words_in l) (words_in l)

abbrev pub nth : List Item → ℕ → Item
nth l i = get_or l i skip

-- a list of words as a move has it
abbrev pub listed : List Item → Words
listed l = record { count = length l; at = λ i. (nth l i).at; width = λ i. (nth l i).len }
