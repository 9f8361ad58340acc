-- Request #107: moving the words among the items of a volume, and what the loop keeps that moves them while it walks.
-- Assumes nothing.
use Rattle.std.specs.Prelude.{◌≡◌, ℕ, ◌+◌, ◌*◌, ◌<◌, ◌≤◌, cond, ◌⊎◌, List, [], ◌∷◌, length, drop, ◌==◌}
use Rattle.facts.specs.Fact.{Fact, ◌≤?◌, ◌≡?◌, deny, ◌or◌, Holds}
use Rattle.words.specs.Put.{add}
use Rattle.items.specs.declared.Item.{Item}
use Rattle.items.specs.Items.{each, apart_from, inside, kept_kind, word_kind, kind_number}
use Rattle.items.specs.Judged.{unbroken}
use Rattle.items.specs.Shapes.{Kept}
use Rattle.inside_rows.specs.declared.Module.{Module}
use Rattle.inside_modules.specs.ModulesFit.{Fits}
use Rattle.inside_blocks.specs.Blocks.{entries_from}
use Rattle.inside_walk.specs.declared.Spot.{Spot}
use Rattle.inside_walk.specs.Whole.{walked}
use Rattle.inside_walk.specs.WholeWalk.{ahead, Valid}
use Rattle.inside_walk.specs.Walkable.{Walkable}

-- the amount for a word of k bytes
abbrev pub shift : ℕ → ℕ → ℕ → ℕ
shift four eight k = cond (k == 4) four eight

-- xs with the item's word moved; what is no word changes nothing
unfoldable pub add_item : List ℕ → Item → (ℕ → ℕ) → List ℕ
add_item xs x d = cond (kind_number x.kind == word_kind) (add x.len xs x.at (d x.len)) xs

-- xs with each word moved, one after the other
unfoldable pub moved_by : List ℕ → List Item → (ℕ → ℕ) → List ℕ
moved_by xs [] d = xs
moved_by xs (x ∷ l) d = moved_by (add_item xs x d) l d

-- what the rules give the mover, of the volume of v bytes whose header file stands at f: rules 3 and 4, 25, 26
pub record Movable (xs : List ℕ) (v f : ℕ) : Type 0 where
  pub walkable : Walkable xs v f
  pub whole : Holds (each unbroken (walked xs v f))
  pub separate : Holds (apart_from [] (walked xs v f))

-- a word x has no byte of y, which is looked at
abbrev pub clear : Item → Item → Fact
clear x y = kind_number y.kind ≡? word_kind or deny (kind_number x.kind ≡? word_kind) or x.at + x.len ≤? y.at or y.at + y.len ≤? x.at

-- the k bytes at p, if there are any, lie in one of the items that are looked at
unfoldable pub Held : List Item → ℕ → ℕ → Type 0
Held [] p k = k ≡ 0
Held (y ∷ l) p k = ((kind_number y.kind ≡ kept_kind) × (y.at ≤ p) × (p + k ≤ y.at + y.len)) ⊎ Held l p k

-- ys is xs with the words moved that the walk has passed, and the walk over ys stands at s
pub record Moving (xs : List ℕ) (v f : ℕ) (d : ℕ → ℕ) (ys : List ℕ) (s : Spot) : Type 0 where
  -- how many items are passed
  pub i : ℕ
  pub valid : Valid ys v s
  pub long : length ys ≡ length xs
  pub rest : drop i (walked xs v f) ≡ ahead xs v s
  pub kept : Kept xs ys (walked xs v f)
  -- the section headers of the module at hand, and the entries ahead in its block
  pub rows : Held (walked xs v f) s.m.table (40 * s.m.rows)
  pub entries : Held (walked xs v f) s.c.at (2 * s.c.left)
  pub done : moved_by ys (ahead xs v s) d ≡ moved_by xs (walked xs v f) d

-- the k entries at p of a block of m, with this page: they and the module's section headers lie in items that are looked at, and no word
-- among them has a byte of such an item
pub record AtHand (xs : List ℕ) (m : Module) (page p k : ℕ) : Type 0 where
  pub looked : List Item
  pub fits : Fits xs m
  pub page_small : page < 4294967296
  pub within : p + 2 * k ≤ length xs
  pub rows : Held looked m.table (40 * m.rows)
  pub entries : Held looked p (2 * k)
  pub words : Holds (each (inside (length xs)) (entries_from xs m page p k))
  pub free : Holds (each (λ x. each (clear x) looked) (entries_from xs m page p k))

-- ys is xs with the words moved of those of the n entries at `at` that are passed, and k entries at p are left
pub record Passed (xs : List ℕ) (m : Module) (page at n : ℕ) (d : ℕ → ℕ) (ys : List ℕ) (p k : ℕ) : Type 0 where
  pub hand : AtHand ys m page p k
  pub long : length ys ≡ length xs
  pub done : moved_by ys (entries_from ys m page p k) d ≡ moved_by xs (entries_from xs m page at n) d
