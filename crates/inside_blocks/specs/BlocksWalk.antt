-- One step of the walk over a module: what a cursor has yet to pass, and the cursor after its next item.
-- Assumes nothing.
use Rattle.items.specs.Items.{end_kind, kept_kind, kind_number}
use Rattle.std.specs.Prelude.{ℕ, ◌+◌, ◌-◌, ◌*◌, ◌≤◌, ◌<◌, List, [], ◌∷◌, ◌++◌, ◌⊎◌, ◌≡◌, length}
use Rattle.items.specs.declared.Item.{Item}
use Rattle.inside_rows.specs.declared.Module.{Module}
use Rattle.inside_blocks.specs.declared.Cursor.{Cursor}
use Rattle.inside_blocks.specs.declared.Turn.{Turn}
use Rattle.inside_blocks.specs.Blocks.{blocks_from, entries_from, head_count, heads_from}
use Rattle.items.specs.Shapes.{Small}

-- ---- the cursor

-- what a cursor has yet to pass: headers, entries of the block at hand, the blocks after it
unfoldable pub ahead : List ℕ → Module → Cursor → List Item
ahead xs m c =
    heads_from m c.heads ++ (entries_from xs m c.page c.at c.left ++ blocks_from xs m (m.size - c.used) c.used)

-- where it starts
unfoldable pub start_of : Module → Cursor
start_of m = record { heads = head_count m; used = 0; at = 0; left = 0; page = 0 }

-- how far it is from the end
abbrev pub far : Module → Cursor → ℕ
far m c = (c.heads * 8589934592 + (m.size - c.used)) * 16777216 + c.left

-- a cursor as the walk makes it
pub record Valid (xs : List ℕ) (c : Cursor) : Type 0 where
  pub few : c.heads ≤ 4
  pub within : c.at + 2 * c.left ≤ length xs
  pub used_small : c.used < 8589934592
  pub page_small : c.page < 4294967296

-- the entries to come of its block lie in the k bytes at p
abbrev pub EntriesIn : ℕ → ℕ → Cursor → Type 0
EntriesIn p k c = (p ≤ c.at) × (c.at + 2 * c.left ≤ p + k)

-- a step from c: its item is the next of those ahead, and the rest is ahead of the cursor that it gives
pub record Stepped (xs : List ℕ) (m : Module) (c : Cursor) (s : Turn) : Type 0 where
  pub ends : kind_number s.item.kind ≡ end_kind → ahead xs m c ≡ []
  pub goes : (kind_number s.item.kind ≡ end_kind → ⊥) → ahead xs m c ≡ s.item ∷ ahead xs m s.next
  pub less : (kind_number s.item.kind ≡ end_kind → ⊥) → far m s.next < far m c
  pub valid : Valid xs s.next
  -- entries to come lie in the block at hand, or there are none, or they lie in the block just met
  pub held : EntriesIn c.at (2 * c.left) s.next
      ⊎ ((s.next.left ≡ 0) ⊎ ((kind_number s.item.kind ≡ kept_kind) × EntriesIn s.item.at s.item.len s.next))
  pub small : Small s.item

-- s is the block at u bytes of the directory: its item is the next, then its entries, then the blocks after it
pub record Met (xs : List ℕ) (m : Module) (u : ℕ) (s : Turn) : Type 0 where
  pub all : blocks_from xs m (m.size - u) u
      ≡ s.item ∷ (entries_from xs m s.next.page s.next.at s.next.left ++ blocks_from xs m (m.size - s.next.used) s.next.used)
  pub less : m.size - s.next.used < m.size - u
  pub valid : Valid xs s.next
  pub small : Small s.item
