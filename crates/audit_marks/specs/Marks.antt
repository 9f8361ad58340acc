-- Marks of places.
-- Assumes nothing.
use Rattle.std.specs.Prelude.{ℕ, ◌+◌, ◌≤◌, ◌<◌, List, Option, Some, None, ◌≡◌, length, get_or}
use Rattle.items.specs.declared.Item.{Item}
use Rattle.items.specs.Items.{kind_number, word_kind}

-- new is old with the item marked, if it is a word that starts in the n places from `from` on
pub record Marked (old : List ℕ) (from n : ℕ) (x : Item) (new : List ℕ) : Type 0 where
  pub same_length : length new ≡ length old
  pub here : (i : ℕ) → i < n → kind_number x.kind ≡ word_kind → x.at ≡ from + i → get_or new i 0 ≡ x.len
  pub other : (i : ℕ) → ((kind_number x.kind ≡ word_kind) × (x.at ≡ from + i) → ⊥) → get_or new i 0 ≡ get_or old i 0

-- from i on and below j there is no mark
abbrev pub Clear : List ℕ → ℕ → ℕ → Type 0
Clear ms i j = (k : ℕ) → i ≤ k → k < j → get_or ms k 0 ≡ 0

-- j is the first mark from i on and below n, or n
pub record First (ms : List ℕ) (i n j : ℕ) : Type 0 where
  pub onward : i ≤ j
  pub most : j ≤ n
  pub clear : Clear ms i j
  pub here : j < n → get_or ms j 0 ≡ 0 → ⊥

-- the first mark from i on and below n, if there is one
abbrev pub FirstMark : List ℕ → ℕ → ℕ → Option ℕ → Type 0
FirstMark ms i n (Some j) = First ms i n j × (j < n)
FirstMark ms i n None = First ms i n n
