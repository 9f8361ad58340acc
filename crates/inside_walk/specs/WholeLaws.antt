-- A step of either cursor is a step of both.
-- Assumes nothing.
use Rattle.inside_files.specs.Parts.{no_part, section_part, part_number}
use Rattle.items.specs.Items.{end_kind, kind_number}
use Rattle.std.specs.Prelude.{ℕ, ◌+◌, ◌-◌, ◌*◌, ◌≤◌, ◌<◌, List, [], ◌∷◌, ◌++◌, ◌≡◌, refl, eqb, length}
use Rattle.std.proofs.Math.Logic.{inl, inr}
use Rattle.std.proofs.Common.{sym, ap, ◌∙◌, eqb-true}
use native.Mathlib.Omega.{arith}
use Rattle.facts.specs.RulesLaws.{by_cond}
use Rattle.words.specs.Le.{le, Bytes}
use Rattle.items.specs.declared.Item.{Item}
use Rattle.inside_files.specs.declared.Part.{Part}
use Rattle.inside_files.specs.declared.Turn as files-turn
use Rattle.inside_files.specs.PartsWalk as filesWalk
use Rattle.inside_files.specs.PartsLaws.{first_valid}
use Rattle.inside_rows.specs.declared.Module.{Module}
use Rattle.inside_rows.specs.Rows.{no_module}
use Rattle.inside_modules.specs.Modules.{module_of}
use Rattle.inside_modules.specs.ModulesFit.{Fits}
use Rattle.inside_modules.specs.ModulesLaws.{module_fits, no_fits}
use Rattle.inside_blocks.specs.declared.Cursor.{Cursor}
use Rattle.inside_blocks.specs.declared.Turn as blocks_turn
use Rattle.inside_blocks.specs.Blocks.{items, heads_from, head_count, blocks_from}
use Rattle.inside_blocks.specs.BlocksWalk.{start_of}
use Rattle.inside_blocks.specs.BlocksWalk as blocksWalk
use Rattle.inside_blocks.specs.BlocksLaws.{ahead_start, start_valid, start_far}
use Rattle.inside_walk.specs.declared.Spot.{Spot}
use Rattle.inside_walk.specs.declared.Move.{Move}
use Rattle.inside_walk.specs.Whole.{module_in, item_for, spread, walked}
use Rattle.inside_walk.specs.WholeWalk.{ahead, first_spot, far, Valid, Stepped, Ended}
use Rattle.items.specs.Shapes.{Small}

-- the module of a part that lies in the image lies within its bounds
pub module_in_fits : (xs : List ℕ) (p : Part) → Bytes xs → length xs ≤ 16777216 → (part_number p.kind ≡ section_part → p.at + p.len ≤ length xs)
    → Fits xs (module_in xs p)
unfolding module_in
module_in_fits xs p bytes long inside =
    by_cond (Fits xs) (eqb (part_number p.kind) section_part) _ _
    (λ e. module_fits xs bytes long p.sort (p.at + 4) (p.at + p.len) (inside (eqb-true (part_number p.kind) section_part e)))
    (λ e. no_fits xs bytes long)

-- ---- the start

none_items : (xs : List ℕ) → items xs no_module ≡ []
unfolding items heads_from head_count blocks_from
none_items xs = refl

-- from there on all items are ahead
pub ahead_first : (xs : List ℕ) (v f : ℕ) → ahead xs v (first_spot xs f) ≡ walked xs v f
unfolding ahead first_spot walked
ahead_first xs v f = rw (ahead_start xs no_module, none_items xs)

pub first_spot_valid : (xs : List ℕ) (v f : ℕ) → Bytes xs → length xs ≤ 16777216 → v ≤ 16777216
    → f + le 3 xs (f + 20) ≤ v → 24 ≤ le 3 xs (f + 20) → le 3 xs (f + 24) ≤ le 3 xs (f + 20) - 24 → Valid xs v (first_spot xs f)
unfolding first_spot
first_spot_valid xs v f bytes long small ends low fits =
    record { place = first_valid xs v f small ends low fits; module_fits = no_fits xs bytes long; cursor = start_valid xs no_module }

-- ---- a step

module _ (xs : List ℕ) (v : ℕ) (s : Spot) (valid : Valid xs v s) where
  -- inside the module
  pub inner : (t : blocks_turn.Turn) (u : Move) → blocksWalk.Stepped xs s.m s.c t → (kind_number t.item.kind ≡ end_kind → ⊥)
      → u ≡ record { item = t.item; next = record { place = s.place; m = s.m; c = t.next } } → Stepped xs v s u
  unfolding ahead
  inner t u step is e =
      rw e
      (record {
        ends = λ z. absurd (is z);
        goes = λ z. rw (step.goes is);
        less = λ z. omega (arith, step.less is);
        valid = record { place = valid.place; module_fits = valid.module_fits; cursor = step.valid };
        held = step.held;
        small = step.small;
        entered = inl refl;
      })

  pub ended : (t : blocks_turn.Turn) → blocksWalk.Stepped xs s.m s.c t → kind_number t.item.kind ≡ end_kind → Ended xs s t.item
  ended t step z = record { none = step.ends z; zero = z; small = step.small }

  module _ (x : Item) (done : Ended xs s x) (p : files-turn.Turn) (on : filesWalk.Stepped xs v s.place p) where
    -- at the end of both
    pub last : (u : Move) → part_number p.part.kind ≡ no_part → u ≡ record { item = x; next = s } → Stepped xs v s u
    unfolding ahead spread
    last u z e =
        rw e
        (record {
          ends = λ w. rw (done.none, on.ends z);
          goes = λ w. absurd (w done.zero);
          less = λ w. absurd (w done.zero);
          valid = valid;
          held = inl (omega arith, omega arith);
          small = done.small;
          entered = inl refl;
        })

    -- on to the next part
    pub outer : (u : Move) → (part_number p.part.kind ≡ no_part → ⊥) → Fits xs (module_in xs p.part)
        → (kind_number (item_for p.part (module_in xs p.part)).kind ≡ 0 → ⊥)
        → Small (item_for p.part (module_in xs p.part))
        → u
        ≡ record {
          item = item_for p.part (module_in xs p.part);
          next = record { place = p.next; m = module_in xs p.part; c = start_of (module_in xs p.part) };
        }
        → Stepped xs v s u
    unfolding ahead spread
    outer u is fits some low e =
        rw e
        (record {
          ends = λ z. absurd (some z);
          goes = λ z. rw (done.none, on.goes is, ahead_start xs (module_in xs p.part));
          less = λ z. omega (arith, on.less is, start_far xs (module_in xs p.part) fits);
          valid = record { place = on.valid; module_fits = fits; cursor = start_valid xs (module_in xs p.part) };
          held = inr (inl (unfold start_of in refl));
          small = low;
          entered = inr refl;
        })
