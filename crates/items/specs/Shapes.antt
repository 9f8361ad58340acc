-- What laws say of items: where they start, their sizes, and bytes that are the same wherever an item was looked at.
-- Assumes nothing.
use Rattle.items.specs.Items.{broken_kind, kept_kind, word_kind, kind_number}
use Prim.{Unit}
use Rattle.std.specs.Prelude.{ℕ, ◌+◌, ◌<◌, List, [], ◌∷◌, ◌≡◌}
use Rattle.facts.specs.Fact.{Fact, ◌≤?◌, ◌≡?◌, ◌and◌, ◌or◌}
use Rattle.words.specs.Le.{Alike}
use Rattle.items.specs.declared.Item.{Item}

-- an item starts at n or after, or has neither place nor bytes
abbrev pub from : ℕ → Item → Fact
from n x = (x.at ≡? 0 and x.len ≡? 0) or n ≤? x.at

-- only what is looked at and a word have bytes
abbrev pub sized : Item → Fact
sized x = kind_number x.kind ≡? kept_kind or kind_number x.kind ≡? word_kind or kind_number x.kind ≡? broken_kind or x.len ≡? 0

-- an item without bytes has no place
abbrev pub solid : Item → Fact
solid x = x.at ≡? 0 or 1 ≤? x.len

-- an item ends so low that no sum with its end wraps
abbrev pub Small : Item → Type 0
Small x = x.at + x.len < 1099511627776

-- a and b agree on the bytes of each item, but for the words
unfoldable pub Kept : List ℕ → List ℕ → List Item → Type 0
Kept a b [] = Unit {0}
Kept a b (x ∷ l) = ((kind_number x.kind ≡ word_kind → ⊥) → Alike a b x.at x.len) × Kept a b l
