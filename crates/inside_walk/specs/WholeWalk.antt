-- One cursor through all items of a volume: the walk over files and sections, and in each module the walk over its headers and blocks.
-- Assumes nothing.
use Rattle.items.specs.Items.{end_kind, kept_kind, kind_number}
use Rattle.std.specs.Prelude.{ℕ, ◌+◌, ◌*◌, ◌<◌, List, [], ◌∷◌, ◌++◌, ◌⊎◌, ◌≡◌}
use Rattle.items.specs.declared.Item.{Item}
use Rattle.inside_files.specs.Parts as files
use Rattle.inside_files.specs.PartsWalk as filesWalk
use Rattle.inside_rows.specs.Rows.{no_module}
use Rattle.inside_modules.specs.ModulesFit.{Fits}
use Rattle.inside_blocks.specs.BlocksWalk.{start_of, EntriesIn}
use Rattle.inside_blocks.specs.BlocksWalk as blocksWalk
use Rattle.inside_walk.specs.declared.Spot.{Spot}
use Rattle.inside_walk.specs.declared.Move.{Move}
use Rattle.inside_walk.specs.Whole.{spread}
use Rattle.items.specs.Shapes.{Small}

-- ---- the cursor

-- what is ahead: the module at hand, then the parts after it
unfoldable pub ahead : List ℕ → ℕ → Spot → List Item
ahead xs v s = blocksWalk.ahead xs s.m s.c ++ spread xs (files.ahead xs v s.place)

-- where it starts
unfoldable pub first_spot : List ℕ → ℕ → Spot
first_spot xs f = record { place = files.first_place xs f; m = no_module; c = start_of no_module }

-- how far it is from the end
abbrev pub far : ℕ → Spot → ℕ
far v s = filesWalk.far v s.place * 1152921504606846976 + blocksWalk.far s.m s.c

-- a spot as the walk makes it
pub record Valid (xs : List ℕ) (v : ℕ) (s : Spot) : Type 0 where
  pub place : filesWalk.Valid v s.place
  pub module_fits : Fits xs s.m
  pub cursor : blocksWalk.Valid xs s.c

-- a step from s: its item is the next of those ahead, and the rest is ahead of the spot that it gives
pub record Stepped (xs : List ℕ) (v : ℕ) (s : Spot) (t : Move) : Type 0 where
  pub ends : kind_number t.item.kind ≡ end_kind → ahead xs v s ≡ []
  pub goes : (kind_number t.item.kind ≡ end_kind → ⊥) → ahead xs v s ≡ t.item ∷ ahead xs v t.next
  pub less : (kind_number t.item.kind ≡ end_kind → ⊥) → far v t.next < far v s
  pub valid : Valid xs v t.next
  -- entries to come lie in the block at hand, or there are none, or they lie in the block just met
  pub held : EntriesIn s.c.at (2 * s.c.left) t.next.c
      ⊎ ((t.next.c.left ≡ 0) ⊎ ((kind_number t.item.kind ≡ kept_kind) × EntriesIn t.item.at t.item.len t.next.c))
  pub small : Small t.item
  -- the module stays, or all items of the next one are ahead
  pub entered : (t.next.m ≡ s.m) ⊎ (t.next.c ≡ start_of t.next.m)

-- the module at hand is done, and x says so
pub record Ended (xs : List ℕ) (s : Spot) (x : Item) : Type 0 where
  pub none : blocksWalk.ahead xs s.m s.c ≡ []
  pub zero : kind_number x.kind ≡ end_kind
  pub small : Small x
