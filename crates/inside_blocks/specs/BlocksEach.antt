-- What holds of each item of a module, from any cursor on.
-- Assumes nothing.
use Prim.Native.Nat.{ℕ, zero, suc, ◌+◌, ◌-◌, ◌*◌, ◌/◌, ◌%◌, ◌≤◌}
use mathlib.Core.List.{List, [], ◌++◌}
use Rattle.std.specs.Prelude.{◌⊎◌, ◌≡◌, refl, ltb, eqb}
use Rattle.std.proofs.Common.{inl, inr, ltb-false}
use native.Mathlib.Omega.{arith}
use Rattle.facts.specs.Fact.{Fact, Holds}
use Rattle.facts.specs.RulesLaws.{by_cond, by_test}
use Rattle.words.specs.Le.{le}
use Rattle.items.specs.declared.Item.{Item}
use Rattle.items.specs.Items.{keep, word, skip, alien, broken, lost, each, inside}
use Rattle.items.specs.ItemsLaws.{each_join}
use Rattle.items.specs.Shapes.{from, sized, solid}
use Rattle.inside_rows.specs.declared.Module.{Module}
use Rattle.inside_modules.specs.Bounds.{Empty, Lies}
use Rattle.inside_places.specs.Places.{found}
use Rattle.inside_places.specs.PlacesLaws.{found_up}
use Rattle.inside_blocks.specs.declared.Cursor.{Cursor}
use Rattle.inside_blocks.specs.Blocks.{head_item, heads_from, head_count, word_of, item_of, entries_from, block_fits, blocks_from, items}
use Rattle.inside_blocks.specs.BlocksWalk.{ahead}
use Rattle.inside_blocks.specs.BlocksLaws.{block_at, size_at, entries_of}

-- P holds of whatever the module's blocks can give
pub record Met (xs : List ℕ) (m : Module) (P : Item → Fact) : Type 0 where
  pub skipped : Holds (P skip)
  pub unknown : Holds (P alien)
  pub outside : Holds (P lost)
  pub moves : (rva w : ℕ) → (w ≡ 4) ⊎ (w ≡ 8) → (found xs m rva w).at + w ≤ m.hi → Holds (P (word (found xs m rva w).at w))
  pub block : (rva k : ℕ) → 8 ≤ k → Holds (P (keep (found xs m rva 8).at k))
  pub cut : (rva : ℕ) → Holds (P (broken (found xs m rva 8).at 8))

module _ (xs : List ℕ) (m : Module) (P : Item → Fact) (met : Met xs m P) where
  word_met : (rva w : ℕ) → (w ≡ 4) ⊎ (w ≡ 8) → Holds (P (word_of m (found xs m rva w) w))
  unfolding word_of
  word_met rva w h =
      by_cond (λ (x : Item). Holds (P x)) (ltb m.hi ((found xs m rva w).at + w)) _ _ (λ e. met.outside)
      (λ e. met.moves rva w h (ltb-false m.hi ((found xs m rva w).at + w) e))

  item_met : (page e : ℕ) → Holds (P (item_of xs m page e))
  unfolding item_of
  item_met page e =
      by_cond (λ (x : Item). Holds (P x)) (eqb (e / 4096) 0) _ _ (λ h. met.skipped)
      (λ h. by_cond (λ (x : Item). Holds (P x)) (eqb (e / 4096) 3) _ _ (λ k. word_met (page + e % 4096) 4 (inl refl))
      (λ k. by_cond (λ (x : Item). Holds (P x)) (eqb (e / 4096) 10) _ _ (λ l. word_met (page + e % 4096) 8 (inr refl))
      (λ l. met.unknown)))

  entries_met : (page at k : ℕ) → Holds (each P (entries_from xs m page at k))
  unfolding entries_from each
  entries_met page at zero = omega arith
  entries_met page at (suc k) = (item_met page (le 2 xs at), entries_met page (at + 2) k)

  blocks_met : (n u : ℕ) → Holds (each P (blocks_from xs m n u))
  unfolding blocks_from each
  blocks_met zero u = omega arith
  blocks_met (suc n) u =
      by_cond (λ (l : List Item). Holds (each P l)) (ltb u m.size) _ _
      (λ h. by_test (λ (l : List Item). Holds (each P l)) (block_fits xs m (block_at xs m u)) _ _
      (λ ok. (
        met.block (m.dir + u) (size_at xs m u) ok.1.0,
        each_join P (entries_of xs m u) (blocks_from xs m n (u + size_at xs m u))
            (entries_met (le 4 xs (block_at xs m u).at) ((block_at xs m u).at + 8) ((size_at xs m u - 8) / 2))
            (blocks_met n (u + size_at xs m u)),
      ))
      (λ bad. (met.cut (m.dir + u), omega arith)))
      (λ h. omega arith)

  heads_met : ((k : ℕ) → Holds (P (head_item m k))) → (k : ℕ) → Holds (each P (heads_from m k))
  unfolding heads_from each
  heads_met h zero = omega arith
  heads_met h (suc k) = (h k, heads_met h k)

  ahead_met : ((k : ℕ) → Holds (P (head_item m k))) → (c : Cursor) → Holds (each P (ahead xs m c))
  unfolding ahead
  ahead_met h c =
      each_join P (heads_from m c.heads)
      (entries_from xs m c.page c.at c.left ++ blocks_from xs m (m.size - c.used) c.used)
      (heads_met h c.heads)
      (each_join P (entries_from xs m c.page c.at c.left) (blocks_from xs m (m.size - c.used) c.used)
      (entries_met c.page c.at c.left) (blocks_met (m.size - c.used) c.used))

-- what holds of each kind of header item holds of a header item
head_by : (m : Module) (P : Item → Fact) → Holds (P (keep m.lo 64)) → Holds (P (keep m.pe (m.base - m.pe)))
    → Holds (P (word m.base m.width))
    → Holds (P (keep (m.base + m.width) (m.table + 40 * m.rows - (m.base + m.width))))
    → (k : ℕ) → Holds (P (head_item m k))
unfolding head_item
head_by m P a b c d k =
    by_cond (λ (x : Item). Holds (P x)) (eqb k 3) _ _ (λ e. a)
    (λ e. by_cond (λ (x : Item). Holds (P x)) (eqb k 2) _ _ (λ f. b)
    (λ f. by_cond (λ (x : Item). Holds (P x)) (eqb k 1) _ _ (λ g. c) (λ g. d)))

-- no item without bytes has a place
pub ahead_solid : (xs : List ℕ) (m : Module) (lo hi : ℕ) (c : Cursor) → Lies lo hi m → Holds (each solid (ahead xs m c))
ahead_solid xs m lo hi c lies =
    ahead_met xs m solid
    (record {
      skipped = inl refl;
      unknown = inl refl;
      outside = inl refl;
      moves = λ rva w h k. inr (elim h [ inl e ↦ omega arith | inr e ↦ omega arith ]);
      block = λ rva k h. inr (omega arith);
      cut = λ rva. inr (omega arith);
    })
    (head_by m solid (inr (omega arith)) (inr (omega (arith, lies.some_before)))
    (inr (elim lies.width [ inl e ↦ omega arith | inr e ↦ omega arith ])) (inr (omega (arith, lies.some_after)))) c

-- every item with bytes starts in the module
pub ahead_from : (xs : List ℕ) (m : Module) (n : ℕ) (c : Cursor) → n ≤ m.lo → m.lo ≤ m.pe → m.pe ≤ m.base → m.lo ≤ m.hi
    → Holds (each (from n) (ahead xs m c))
ahead_from xs m n c low pe base high =
    ahead_met xs m (from n)
    (record {
      skipped = inl (refl, refl);
      unknown = inl (refl, refl);
      outside = inl (refl, refl);
      moves = λ rva w h e. inr (omega (arith, found_up xs m rva w high));
      block = λ rva k h. inr (omega (arith, found_up xs m rva 8 high));
      cut = λ rva. inr (omega (arith, found_up xs m rva 8 high));
    })
    (head_by m (from n) (inr (omega arith)) (inr (omega arith)) (inr (omega arith)) (inr (omega arith))) c

-- every word has 4 or 8 bytes and ends in it
pub ahead_inside : (xs : List ℕ) (m : Module) (lo hi : ℕ) (c : Cursor) → Lies lo hi m → Holds (each (inside hi) (ahead xs m c))
ahead_inside xs m lo hi c lies =
    ahead_met xs m (inside hi)
    (record {
      skipped = inl (λ e. omega arith);
      unknown = inl (λ e. omega arith);
      outside = inl (λ e. omega arith);
      moves = λ rva w h e. inr (omega (arith, lies.high), h);
      block = λ rva k h. inl (λ e. omega arith);
      cut = λ rva. inl (λ e. omega arith);
    })
    (head_by m (inside hi) (inl (λ e. omega arith)) (inl (λ e. omega arith)) (inr (omega arith, lies.width)) (inl (λ e. omega arith))) c

-- what has bytes is looked at or is a word
pub ahead_sized : (xs : List ℕ) (m : Module) (c : Cursor) → Holds (each sized (ahead xs m c))
ahead_sized xs m c =
    ahead_met xs m sized
    (record {
      skipped = inr (inr (inr refl));
      unknown = inr (inr (inr refl));
      outside = inr (inr (inr refl));
      moves = λ rva w h e. inr (inl refl);
      block = λ rva k h. inl refl;
      cut = λ rva. inr (inr (inl refl));
    })
    (head_by m sized (inl refl) (inl refl) (inr (inl refl)) (inl refl)) c

-- no module has no items
pub items_none : (xs : List ℕ) (m : Module) → Empty m → items xs m ≡ []
unfolding items heads_from head_count blocks_from
items_none xs m (inl e) = rw e
items_none xs m (inr e) = rw e
