-- The entries at hand of a spot: those that are left in the block it stands in. A loop over them needs no spot.
-- Assumes nothing.
use Rattle.std.specs.Prelude.{ℕ, ◌+◌, ◌-◌, ◌*◌, ◌≤◌, cond, List, [], ◌∷◌, ◌++◌, ◌≡◌, refl, eqb, length}
use Rattle.std.proofs.Common.{append_assoc, sym, ◌∙◌, eq-eqb, ne_eqb}
use native.Mathlib.Omega.{arith}
use Rattle.std.proofs.Math.Decide.{ℕ_discrete}
use Rattle.facts.specs.RulesLaws.{by_cond}
use Rattle.items.specs.declared.Item.{Item}
use Rattle.inside_files.specs.Parts as files
use Rattle.inside_rows.specs.declared.Module.{Module}
use Rattle.inside_blocks.specs.Blocks.{heads_from, entries_from, blocks_from}
use Rattle.inside_blocks.specs.BlocksWalk as blocksWalk
use Rattle.inside_walk.specs.declared.Spot.{Spot}
use Rattle.inside_walk.specs.Whole.{spread, walked}
use Rattle.inside_walk.specs.WholeWalk.{ahead, far, Valid}
use Rattle.inside_walk.specs.Walkable.{Passing}

-- how many: none while headers are to come
unfoldable pub count_of : Spot → ℕ
count_of s = cond (eqb s.c.heads 0) s.c.left 0

-- their items
abbrev pub entries_of : List ℕ → Spot → List Item
entries_of xs s = entries_from xs s.m s.c.page s.c.at (count_of s)

-- the spot after them
unfoldable pub past_of : Spot → Spot
past_of s =
    record {
      place = s.place;
      m = s.m;
      c = record { heads = s.c.heads; used = s.c.used; at = s.c.at; left = s.c.left - count_of s; page = s.c.page };
    }

entries_none : (xs : List ℕ) (s : Spot) → entries_from xs s.m s.c.page s.c.at 0 ≡ []
unfolding entries_from
entries_none xs s = refl

heads_none : (m : Module) → heads_from m 0 ≡ []
unfolding heads_from
heads_none m = refl

-- they are ahead, and then what is ahead of the spot after them
pub ahead_entries : (xs : List ℕ) (v : ℕ) (s : Spot) → ahead xs v s ≡ entries_of xs s ++ ahead xs v (past_of s)
ahead_entries xs v s =
    elim (ℕ_discrete s.c.heads 0) [
      | yes e ↦ unfold ahead in unfold blocksWalk.ahead in unfold count_of in unfold past_of in
          let none : s.c.left - s.c.left ≡ 0 = omega arith in
          rw (eq-eqb s.c.heads 0 e, e, heads_none s.m, none, entries_none xs s)
          (append_assoc (entries_from xs s.m s.c.page s.c.at s.c.left) (blocks_from xs s.m (s.m.size - s.c.used) s.c.used)
          (spread xs (files.ahead xs v s.place)))
      | no e ↦ unfold ahead in unfold blocksWalk.ahead in unfold count_of in unfold past_of in
          let all : s.c.left - 0 ≡ s.c.left = omega arith in
          rw (ne_eqb s.c.heads 0 e, all, entries_none xs s)
    ]

pub count_most : (s : Spot) → count_of s ≤ s.c.left
unfolding count_of
count_most s = by_cond (λ (n : ℕ). n ≤ s.c.left) (eqb s.c.heads 0) _ _ (λ e. omega arith) (λ e. omega arith)

-- the entries lie in the image, and the walk is no farther from its end
pub entries_within : (xs : List ℕ) (v : ℕ) (s : Spot) → Valid xs v s → s.c.at + 2 * count_of s ≤ length xs
entries_within xs v s valid = omega (arith, count_most s, valid.cursor.within)

pub past_valid : (xs : List ℕ) (v : ℕ) (s : Spot) → Valid xs v s → Valid xs v (past_of s)
unfolding past_of
past_valid xs v s valid =
    record {
      place = valid.place;
      module_fits = valid.module_fits;
      cursor = record {
        few = valid.cursor.few;
        within = omega (arith, valid.cursor.within);
        used_small = valid.cursor.used_small;
        page_small = valid.cursor.page_small;
      };
    }

pub past_far : (v : ℕ) (s : Spot) → far v (past_of s) ≤ far v s
unfolding past_of
past_far v s = omega arith

-- with them passed too
pub passing_entries : (xs : List ℕ) (v f : ℕ) (l : List Item) (s : Spot) → Passing xs v f l s → Passing xs v f (l ++ entries_of xs s) (past_of s)
passing_entries xs v f l s p =
    record {
      valid = past_valid xs v s p.valid;
      all = p.all ∙ rw (ahead_entries xs v s) (sym (append_assoc l (entries_of xs s) (ahead xs v (past_of s))));
    }
