-- A window of bytes that stand at the positions from `from` on, and a word laid into it.
-- Assumes nothing.
use Rattle.std.specs.Prelude.{◌≡◌, ℕ, ◌+◌, ◌-◌, ◌%◌, ◌^◌, ◌<◌, ◌≤◌, List, length, slice_index}
use Rattle.words.specs.Le.{le}
use Rattle.words.specs.Put.{digit}
use Rattle.items.specs.declared.Item.{Item}
use Rattle.items.specs.Items.{word_kind, kind_number}
use Rattle.move_modules.specs.Relocate.{shift}

-- the moved value of the word of w bytes at k
abbrev pub value : List ℕ → ℕ → ℕ → ℕ → ℕ → ℕ
value xs four eight k w = (le w xs k + shift four eight w) % 256 ^ w

-- the position k lies in the word of m bytes at p
abbrev pub In : ℕ → ℕ → ℕ → Type 0
In p m k = (p ≤ k) × (k < p + m)

-- new is old with the m bytes of w from position p on, those that lie there
pub record Laid (from n p m w : ℕ) (old new : List ℕ) : Type 0 where
  pub same_length : length new ≡ length old
  pub here : (i : ℕ) → i < n → In p m (from + i) → slice_index new i ≡ digit w (from + i - p)
  pub other : (i : ℕ) → (In p m (from + i) → ⊥) → slice_index new i ≡ slice_index old i

-- the same of an item, if it is a word: value tells what is laid
pub record ItemLaid (value : ℕ → ℕ → ℕ) (from n : ℕ) (x : Item) (old new : List ℕ) : Type 0 where
  pub same_length : length new ≡ length old
  pub here : (i : ℕ) → i < n → kind_number x.kind ≡ word_kind → In x.at x.len (from + i)
      → slice_index new i ≡ digit (value x.at x.len) (from + i - x.at)
  pub other : (i : ℕ) → ((kind_number x.kind ≡ word_kind) × In x.at x.len (from + i) → ⊥) → slice_index new i ≡ slice_index old i
