-- Request #107: the words of the modules, for a walk that goes up through the image. They may come in any order within a module; a window of
-- bytes that stand at the positions from `from` on has them all laid into it.
-- Assumes nothing.
use Rattle.std.specs.Prelude.{ℕ, ◌+◌, ◌-◌, ◌≤◌, ◌<◌, List, ◌++◌, ◌⊎◌, ◌≡◌, length, get_or}
use Rattle.words.specs.Put.{digit}
use Rattle.items.specs.declared.Item.{Item}
use Rattle.inside_walk.specs.declared.Spot.{Spot}
use Rattle.inside_walk.specs.WholeWalk.{ahead, Valid}
use Rattle.audit_fill_window.specs.Near.{Has}
use Rattle.audit_lay.specs.Lay.{In}
use Rattle.audit_window.specs.declared.Found.{Found}

-- ---- the words of a list of items

-- each has bytes, and no two share one
pub record Apart (l : List Item) : Type 0 where
  pub some : (k w : ℕ) → Has l k w → 0 < w
  pub one : (k w p m i : ℕ) → Has l k w → Has l p m → In k w i → In p m i → (k ≡ p) × (w ≡ m)

-- each lies in an image of n bytes, and has 4 bytes or 8
abbrev pub Fitting : ℕ → List Item → Type 0
Fitting n l = (k w : ℕ) → Has l k w → (k + w ≤ n) × ((w ≡ 4) ⊎ (w ≡ 8))

-- ---- where the walk stands

-- from s on the walk has come to t, and each word that it has passed ends by n
pub record Passed (xs : List ℕ) (v : ℕ) (s : Spot) (n : ℕ) (t : Spot) : Type 0 where
  pub valid : Valid xs v t
  pub below : (k w : ℕ) → Has (ahead xs v s) k w → (k + w ≤ n) ⊎ Has (ahead xs v t) k w
  pub back : (k w : ℕ) → Has (ahead xs v t) k w → Has (ahead xs v s) k w

-- r is such a spot, and where r.low is past n no word ahead of it starts below r .low
pub record Sought (xs : List ℕ) (v : ℕ) (s : Spot) (n : ℕ) (r : Found) : Type 0 where
  pub passed : Passed xs v s n r.spot
  pub low : (k w : ℕ) → Has (ahead xs v r.spot) k w → n < r.low → r.low ≤ k
  pub onward : n ≤ r.low
  pub most : r.low ≤ length xs

-- ---- the window

-- ms is base with the words of all laid into it, but for those of rest; value tells what each holds
pub record Drawing (value : ℕ → ℕ → ℕ) (all rest : List Item) (from n : ℕ) (base ms : List ℕ) : Type 0 where
  pub size : n ≤ length ms
  pub word : (k w i : ℕ) → i < n → Has all k w → In k w (from + i)
      → (get_or ms i 0 ≡ digit (value k w) (from + i - k)) ⊎ Has rest k w
  pub other : (i : ℕ) → i < n → ((k w : ℕ) → Has all k w → In k w (from + i) → ⊥) → get_or ms i 0 ≡ get_or base i 0
  pub back : (k w : ℕ) → Has rest k w → Has all k w

-- a walk that has come from l to m, whatever comes after them, has turned old into new
abbrev pub Draws : (ℕ → ℕ → ℕ) → List Item → List Item → ℕ → ℕ → List ℕ → List ℕ → Type 0
Draws value l m from n old new =
    (all rest : List Item) (base : List ℕ) → Apart all → Drawing value all (l ++ rest) from n base old
    → Drawing value all (m ++ rest) from n base new

-- ms is base with all words of l laid into it
pub record Drawn (value : ℕ → ℕ → ℕ) (l : List Item) (from n : ℕ) (base ms : List ℕ) : Type 0 where
  pub size : n ≤ length ms
  pub word : (k w i : ℕ) → i < n → Has l k w → In k w (from + i) → get_or ms i 0 ≡ digit (value k w) (from + i - k)
  pub other : (i : ℕ) → i < n → ((k w : ℕ) → Has l k w → In k w (from + i) → ⊥) → get_or ms i 0 ≡ get_or base i 0
