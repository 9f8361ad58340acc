-- Request #107: the words of the modules in the order of their places, for a walk that goes up through the image. They may come in any
-- order within a module; a window of marks tells which of them start in a stretch of the image.
-- Assumes nothing.
use Rattle.std.specs.Prelude.{ℕ, ◌+◌, ◌-◌, ◌≤◌, ◌<◌, List, [], ◌∷◌, ◌++◌, ◌⊎◌, ◌≡◌, length, get_or}
use Rattle.facts.specs.Fact.{Holds}
use Rattle.moves.specs.Moves.{Words}
use Rattle.items.specs.declared.Item.{Item}
use Rattle.items.specs.Items.{apart_from, words_in, listed, kind_number, word_kind}
use Rattle.inside_rows.specs.declared.Module.{Module}
use Rattle.inside_blocks.specs.declared.Cursor.{Cursor}
use Rattle.inside_walk.specs.declared.Spot.{Spot}
use Rattle.inside_walk.specs.Whole.{walked}
use Rattle.inside_walk.specs.WholeWalk.{ahead, Valid}
use Rattle.inside_walk.specs.Walkable.{Walkable}
use Rattle.audit_fill_window.specs.declared.Window.{Window}
use Rattle.audit_fill_window.specs.declared.Mark.{Mark}
use Rattle.audit_fill_window.specs.declared.Found.{Found}

-- the words of the modules, as a move has them
abbrev pub module_words : List ℕ → ℕ → ℕ → Words
module_words xs v f = listed (words_in (walked xs v f))

-- what rules 3, 4 and 26 give of an accepted image: the walk can start, and its words share no byte
pub record Ordered (xs : List ℕ) (v f : ℕ) : Type 0 where
  pub walkable : Walkable xs v f
  pub apart : Holds (apart_from [] (walked xs v f))

-- q has the next module word of a walk that stands at `at`: one that ends past `at`, and none that does starts before it; where none is
-- left it has the image's length
pub record Next (xs : List ℕ) (v f at : ℕ) (q : Window) : Type 0 where
  pub most : q.at ≤ length xs
  pub past : q.at < length xs → at < q.at + q.width
  pub word : q.at < length xs
      → (i : ℕ) × (i < (module_words xs v f).count) × ((module_words xs v f).at i ≡ q.at) × ((module_words xs v f).width i ≡ q.width)
  pub least : (i : ℕ) → i < (module_words xs v f).count → at < (module_words xs v f).at i + (module_words xs v f).width i
      → q.at ≤ (module_words xs v f).at i

-- ---- what the functions know

-- a word of w bytes stands at k
unfoldable pub Has : List Item → ℕ → ℕ → Type 0
Has [] k w = ⊥
Has (x ∷ l) k w = ((kind_number x.kind ≡ word_kind) × (x.at ≡ k) × (x.len ≡ w)) ⊎ Has l k w

-- a mark can tell each word
abbrev pub Telling : List Item → Type 0
Telling l = (k w : ℕ) → Has l k w → (0 < w) × (w < 256)

-- all of the module is passed
abbrev pub Done : Module → Cursor → Type 0
Done m c = (c.heads ≡ 0) × (c.left ≡ 0) × (m.size ≤ c.used)

-- n lies at or below all that can be ahead of s: the module at hand, unless all of it is passed, the next section, the next file
pub record Low (s : Spot) (n : ℕ) : Type 0 where
  pub hand : (n ≤ s.m.lo) ⊎ Done s.m s.c
  pub section : s.place.at < s.place.end → n ≤ s.place.at
  pub file : n ≤ s.place.file

-- from s on the walk has come to t, and each word that it has passed starts below n
pub record Passed (xs : List ℕ) (v : ℕ) (s : Spot) (n : ℕ) (t : Spot) : Type 0 where
  pub valid : Valid xs v t
  pub below : (k w : ℕ) → Has (ahead xs v s) k w → (k < n) ⊎ Has (ahead xs v t) k w
  pub back : (k w : ℕ) → Has (ahead xs v t) k w → Has (ahead xs v s) k w

-- r is such a spot, and from n on no word ahead of it starts below r .low
pub record Sought (xs : List ℕ) (v : ℕ) (s : Spot) (n : ℕ) (r : Found) : Type 0 where
  pub passed : Passed xs v s n r.spot
  pub low : (k w : ℕ) → Has (ahead xs v r.spot) k w → n ≤ k → r.low ≤ k
  pub onward : n ≤ r.low
  pub most : r.low ≤ length xs

-- of the words of all, those passed by the time that rest is left are marked
pub record Filling (all rest : List Item) (from n : ℕ) (ms : List ℕ) : Type 0 where
  pub size : n ≤ length ms
  pub seen : (i w : ℕ) → i < n → Has all (from + i) w → (get_or ms i 0 ≡ 0 → ⊥) ⊎ Has rest (from + i) w
  pub word : (i : ℕ) → i < n → (get_or ms i 0 ≡ 0 → ⊥) → Has all (from + i) (get_or ms i 0)
  pub back : (k w : ℕ) → Has rest k w → Has all k w

-- a walk that has come from l to m, whatever comes after them, has turned old into new
abbrev pub Noting : List Item → List Item → ℕ → ℕ → List ℕ → List ℕ → Type 0
Noting l m from n old new =
    (all rest : List Item) → Telling all → Filling all (l ++ rest) from n old → Filling all (m ++ rest) from n new

-- the first n marks tell which words of l start from `from` on
pub record Filled (l : List Item) (from n : ℕ) (ms : List ℕ) : Type 0 where
  pub size : n ≤ length ms
  pub seen : (i w : ℕ) → i < n → Has l (from + i) w → get_or ms i 0 ≡ 0 → ⊥
  pub word : (i : ℕ) → i < n → (get_or ms i 0 ≡ 0 → ⊥) → Has l (from + i) (get_or ms i 0)

-- r is the first mark from the i-th place of a window on, or its end
pub record Settled (ms : List ℕ) (from to i : ℕ) (r : Mark) : Type 0 where
  pub onward : from + i ≤ r.at
  pub most : r.at ≤ to
  pub clear : (k : ℕ) → i ≤ k → from + k < r.at → get_or ms k 0 ≡ 0
  pub here : r.at < to → (get_or ms (r.at - from) 0 ≡ r.width) × (r.width ≡ 0 → ⊥)

-- r is the window after q: no word that q hasn't told starts before r.at, and from there on the marks are exact
pub record Refilled (xs : List ℕ) (v : ℕ) (q r : Window) (ms : List ℕ) : Type 0 where
  pub onward : q.to ≤ r.from
  pub low : r.from ≤ r.at
  pub high : r.at ≤ r.to
  pub most : r.to ≤ length xs
  pub size : r.to ≤ r.from + length ms
  pub more : q.to < r.to
  pub none : (k w : ℕ) → Has (ahead xs v q.spot) k w → q.to ≤ k → k < r.at → ⊥
  pub seen : (i w : ℕ) → r.at ≤ r.from + i → r.from + i < r.to → Has (ahead xs v q.spot) (r.from + i) w → get_or ms i 0 ≡ 0 → ⊥
  pub word : (i : ℕ) → r.at ≤ r.from + i → r.from + i < r.to → (get_or ms i 0 ≡ 0 → ⊥)
      → Has (ahead xs v q.spot) (r.from + i) (get_or ms i 0)
  pub here : r.at < r.to → (get_or ms (r.at - r.from) 0 ≡ r.width) × (r.width ≡ 0 → ⊥)
  pub passed : Passed xs v q.spot r.to r.spot

-- a walk that stands at `at` has passed every word that starts below q .at; from there on the marks are exact
pub record Standing (xs : List ℕ) (v f at : ℕ) (q : Window) (ms : List ℕ) : Type 0 where
  pub low : q.from ≤ q.at
  pub high : q.at ≤ q.to
  pub most : q.to ≤ length xs
  pub size : q.to ≤ q.from + length ms
  pub passed : (k w : ℕ) → Has (walked xs v f) k w → k < q.at → k + w ≤ at
  pub none : (i w : ℕ) → q.at ≤ q.from + i → q.from + i < q.to → Has (walked xs v f) (q.from + i) w → get_or ms i 0 ≡ 0 → ⊥
  pub word : (i : ℕ) → q.at ≤ q.from + i → q.from + i < q.to → (get_or ms i 0 ≡ 0 → ⊥)
      → Has (walked xs v f) (q.from + i) (get_or ms i 0)
  pub here : q.at < q.to → (get_or ms (q.at - q.from) 0 ≡ q.width) × (q.width ≡ 0 → ⊥)
  -- where the next window's walk starts: each word before that starts below q .to
  pub valid : Valid xs v q.spot
  pub below : (k w : ℕ) → Has (walked xs v f) k w → (k < q.to) ⊎ Has (ahead xs v q.spot) k w
  pub back : (k w : ℕ) → Has (ahead xs v q.spot) k w → Has (walked xs v f) k w

-- ---- on within a window

-- its next word stands in it or at its end, and the word's end is a small number
abbrev pub Fitting : List ℕ → ℕ → ℕ → ℕ → ℕ → Type 0
Fitting ms from to at width =
    (from ≤ at) × (at ≤ to) × (to ≤ from + length ms) × (to ≤ 16777216) × (at < to → at + width ≤ 33554432)

-- a window with its next word
abbrev pub at_mark : ℕ → ℕ → Spot → Mark → Window
at_mark from to spot m = record { from = from; to = to; at = m.at; width = m.width; spot = spot }

-- a walk that stands at `at` may go on from the word p of a window to r
abbrev pub Onward : List ℕ → ℕ → ℕ → ℕ → Mark → Mark → Type 0
Onward ms from to at p r =
    (xs : List ℕ) (v f : ℕ) (spot : Spot) → Ordered xs v f → Standing xs v f at (at_mark from to spot p) ms
    → Standing xs v f at (at_mark from to spot r) ms

-- r is q at its first word that ends past `at`, or at its end
pub record WentOn (ms : List ℕ) (at : ℕ) (q r : Window) : Type 0 where
  pub to : r.to ≡ q.to
  pub stands : (xs : List ℕ) (v f : ℕ) → Ordered xs v f → Standing xs v f at q ms → Standing xs v f at r ms
  pub past : r.at < r.to → at < r.at + r.width
