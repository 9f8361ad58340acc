-- Request #107, rule 26: a window of marks, one for each of 65,536 bytes from w on: 2 where a word lies, 1 where only other items do.
-- Assumes nothing.
use Rattle.std.specs.Prelude.{ℕ, suc, ◌+◌, ◌*◌, ◌≤◌, ◌<◌, Bool, true, false, List, [], ◌∷◌, ◌++◌, ◌≡◌, length, get_or}
use Rattle.facts.specs.Fact.{Fact, ◌≤?◌, ◌≡?◌, deny, ◌and◌, ◌or◌, Holds}
use Rattle.table.specs.Passes.{place}
use Rattle.items.specs.declared.Item.{Item}
use Rattle.items.specs.Items.{each, apart, word_kind, kind_number}

-- the byte at k is one of x
abbrev pub has : ℕ → Item → Fact
has k x = x.at ≤? k and suc k ≤? x.at + x.len

-- the byte at k isn't one of both, or neither is a word
abbrev pub apart_at : ℕ → Item → Item → Fact
apart_at k x y = (deny (kind_number x.kind ≡? word_kind) and deny (kind_number y.kind ≡? word_kind)) or deny (has k x) or deny (has k y)

-- the byte at k is none of y
abbrev pub free : ℕ → Item → Fact
free k y = deny (has k y)

-- y is no word that has it
abbrev pub calm : ℕ → Item → Fact
calm k y = deny (kind_number y.kind ≡? word_kind) or deny (has k y)

-- m is the mark that the items of l leave at k
pub record Mark (l : List Item) (k m : ℕ) : Type 0 where
  pub small : m ≤ 2
  pub empty : m ≡ 0 → Holds (each (free k) l)
  pub taken : Holds (each (free k) l) → m ≡ 0
  pub wordless : m ≤ 1 → Holds (each (calm k) l)
  pub worded : Holds (each (calm k) l) → m ≤ 1

-- the window holds the marks of l
pub record Marks (l : List Item) (w : ℕ) (ms : List ℕ) : Type 0 where
  pub long : length ms ≡ 65536
  pub at : (j : ℕ) → j < 65536 → Mark l (w + j) (get_or ms j 0)

-- ---- marking a range

-- k, told from w on and cut to the window
pub record Clipped (k w r : ℕ) : Type 0 where
  pub small : r ≤ 65536
  pub below : (j : ℕ) → j < r → w + j < k
  pub above : (j : ℕ) → j < 65536 → r ≤ j → k ≤ w + j

-- one byte of at..end in the window is marked past the limit
pub record StruckIn (ms : List ℕ) (w at end limit : ℕ) : Type 0 where
  pub where_at : ℕ
  pub small : where_at < 65536
  pub low : at ≤ w + where_at
  pub high : suc (w + where_at) ≤ end
  pub over : limit < get_or ms where_at 0

-- r: all of at..end in the window was within the limit, and is marked
pub record PaintedIn (ms ns : List ℕ) (w at end limit mark : ℕ) (r : Bool) : Type 0 where
  pub long : length ns ≡ length ms
  pub met : r ≡ true → (j : ℕ) → j < 65536 → at ≤ w + j → suc (w + j) ≤ end → get_or ms j 0 ≤ limit
  pub done : r ≡ true → (j : ℕ) → j < 65536 → at ≤ w + j → suc (w + j) ≤ end → get_or ns j 0 ≡ mark
  pub rest : r ≡ true → (j : ℕ) → j < 65536 → ((at ≤ w + j) × (suc (w + j) ≤ end) → ⊥) → get_or ns j 0 ≡ get_or ms j 0
  pub bad : r ≡ false → StruckIn ms w at end limit

-- ---- marking an item

-- r: x is apart, at each byte of the window, from those that left the marks ms; ns has its marks too
pub record Added (ms ns : List ℕ) (w : ℕ) (x : Item) (r : Bool) : Type 0 where
  pub long : length ns ≡ length ms
  pub went : (l : List Item) → Marks l w ms → r ≡ true → Marks (l ++ (x ∷ [])) w ns
  pub fits : (l : List Item) → Marks l w ms → r ≡ true → (j : ℕ) → j < 65536 → Holds (each (apart_at (w + j) x) l)
  pub clash : (l : List Item) → Marks l w ms → r ≡ false → Holds (each (apart x) l) → ⊥

-- ---- the patch words

-- the n entries at t lie in the image, none is refused, and their words end in it
pub record Patch (xs : List ℕ) (t n : ℕ) : Type 0 where
  pub small : length xs ≤ 16777216
  pub table : t + 4 * n ≤ length xs
  pub good : (i : ℕ) → i < n → (place xs t i).number ≡ 0
  pub ends : (i : ℕ) → i < n → (place xs t i).at + 4 ≤ length xs
