-- Which bytes the items of a module go by: its headers but for the image base, and its relocation blocks.
-- Assumes nothing.
use Rattle.inside_rows.specs.Rows.{bad_kind, pe_kind, te_kind, module_number}
use Prim.Native.Nat.{ℕ, zero, suc, ◌+◌, ◌-◌, ◌*◌, ◌/◌, ◌%◌, ◌<◌}
use Rattle.std.specs.Prelude.{Bool, true, false, List, [], ◌∷◌, ◌++◌, ◌⊎◌, ◌≡◌}
use Rattle.std.proofs.Common.{inl, inr, ◌∙◌, arith, eq-eqb, ne_eqb}
use Rattle.std.proofs.Math.Path.{refl, sym}
use Rattle.std.proofs.Math.Decide.{dec_lt}
use Rattle.facts.specs.Fact.{Holds, Says, test}
use Rattle.facts.specs.FactLaws.{says}
use Rattle.words.specs.Le.{le, Alike}
use Rattle.words.specs.LeLaws.{le_in, alike_in}
use Rattle.items.specs.Items.{keep, broken}
use Rattle.items.specs.Shapes.{Kept}
use Rattle.items.specs.KeptLaws.{kept_left, kept_right}
use Rattle.inside_rows.specs.declared.Module.{Module}
use Rattle.inside_modules.specs.Bounds.{Empty, Lies}
use Rattle.inside_modules.specs.Frame.{Seen}
use Rattle.inside_places.specs.PlacesLaws.{found_cong}
use Rattle.inside_blocks.specs.declared.Cursor.{Cursor}
use Rattle.inside_blocks.specs.Blocks.{head_item, heads_from, head_count, item_of, entries_from, block_fits, blocks_from, items}
use Rattle.inside_blocks.specs.BlocksWalk.{ahead}
use Rattle.inside_blocks.specs.BlocksLaws.{block_at, size_at, entries_of, blocks_none, blocks_end, blocks_broken, blocks_next}

module _ (a b : List ℕ) (m : Module) (rows : Alike a b m.table (40 * m.rows)) where
  item_cong : (page e : ℕ) → item_of a m page e ≡ item_of b m page e
  unfolding item_of
  item_cong page e = rw (found_cong a b m rows (page + e % 4096) 4, found_cong a b m rows (page + e % 4096) 8)

  pub entries_cong : (page at k : ℕ) → Alike a b at (2 * k) → entries_from a m page at k ≡ entries_from b m page at k
  unfolding entries_from
  entries_cong page at zero same = refl
  entries_cong page at (suc k) same =
      rw (
        le_in same 2 at (omega arith) (omega arith),
        item_cong page (le 2 b at),
        entries_cong page (at + 2) k (alike_in same (at + 2) (2 * k) (omega arith) (omega arith)),
      )

  blocks_cong : (n u : ℕ) → Kept a b (blocks_from a m n u) → blocks_from a m n u ≡ blocks_from b m n u
  unfolding Kept
  blocks_cong zero u kept = blocks_none a m u ∙ sym (blocks_none b m u)
  blocks_cong (suc n) u kept =
      elim (dec_lt u m.size) [
        | no h ↦ blocks_end a m (suc n) u (omega arith) ∙ sym (blocks_end b m (suc n) u (omega arith))
        | yes h ↦ go h (test (block_fits a m (block_at a m u))) (says (block_fits a m (block_at a m u))) (blocks_cong n (u + size_at a m u))
      ]
    where
      p : ℕ
      p = (block_at a m u).at

      there : block_at a m u ≡ block_at b m u
      there = found_cong a b m rows (m.dir + u) 8

      go : u < m.size → (t : Bool) → Says t (Holds (block_fits a m (block_at a m u)))
          → (Kept a b (blocks_from a m n (u + size_at a m u)) → blocks_from a m n (u + size_at a m u) ≡ blocks_from b m n (u + size_at a m u))
          → blocks_from a m (suc n) u ≡ blocks_from b m (suc n) u
      go h false bad rest =
          let e = blocks_broken a m n u h bad in
          let kept' : Kept a b (broken (block_at a m u).at 8 ∷ []) = rw e at kept in
          let same : Alike a b p 8 = kept'.0 (λ z. omega arith) in
          let size : le 4 a (p + 4) ≡ le 4 b (p + 4) = le_in same 4 (p + 4) (omega arith) (omega arith) in
          let bad' : Holds (block_fits b m (block_at a m u)) → ⊥ = λ ok. bad (rw size ok) in
          e ∙ sym (rw (← there) at (blocks_broken b m n u h (rw there at bad')))
      go h true ok rest =
          let e = blocks_next a m n u h ok in
          let k = size_at a m u in
          let kept' : Kept a b (keep p k ∷ (entries_of a m u ++ blocks_from a m n (u + k))) = rw e at kept in
          let same : Alike a b p k = kept'.0 (λ z. omega arith) in
          let size : le 4 a (p + 4) ≡ le 4 b (p + 4) = le_in same 4 (p + 4) (omega arith) (omega (arith, ok.1.0)) in
          let page : le 4 a p ≡ le 4 b p = le_in same 4 p (omega arith) (omega (arith, ok.1.0)) in
          let ok' : Holds (block_fits b m (block_at a m u)) = rw size at ok in
          let inner = entries_cong (le 4 a p) (p + 8) ((k - 8) / 2)
          (alike_in same (p + 8) (2 * ((k - 8) / 2)) (omega arith) (omega (arith, ok.1.0))) in
          let outer = rest (kept_right a b (entries_of a m u) (blocks_from a m n (u + k)) kept'.1) in
          e ∙ rw (inner, outer) (sym (rw (← there, ← size, ← page) at (blocks_next b m n u h (rw there at ok'))))

  -- two images that agree there have the same items
  pub items_cong : Kept a b (items a m) → items a m ≡ items b m
  unfolding items
  items_cong kept =
      rw (blocks_cong m.size 0 (kept_right a b (heads_from m (head_count m)) (blocks_from a m m.size 0) kept))

  -- the same from a cursor on
  pub ahead_cong : (c : Cursor) → Alike a b c.at (2 * c.left) → Kept a b (ahead a m c) → ahead a m c ≡ ahead b m c
  unfolding ahead
  ahead_cong c entries kept =
      let l = entries_from a m c.page c.at c.left in
      let k = blocks_from a m (m.size - c.used) c.used in
      rw (
        entries_cong c.page c.at c.left entries,
        blocks_cong (m.size - c.used) c.used (kept_right a b l k (kept_right a b (heads_from m c.heads) (l ++ k) kept)),
      )

-- the header items have all bytes that the module is read from
heads_seen : (a b : List ℕ) (m : Module) → (module_number m.kind ≡ pe_kind) ⊎ (module_number m.kind ≡ te_kind) → Kept a b (heads_from m (head_count m)) → Seen a b m
unfolding heads_from head_item head_count Kept
heads_seen a b m (inl k) kept =
    let seen : Kept a b (heads_from m 4) = rw (eq-eqb (module_number m.kind) pe_kind k) at kept in
    record { dos = λ e. seen.0 (λ z. omega arith); before = seen.1.0 (λ z. omega arith); after = seen.1.1.1.0 (λ z. omega arith) }
heads_seen a b m (inr k) kept =
    let seen : Kept a b (heads_from m 3) = rw (ne_eqb (module_number m.kind) pe_kind (λ e. omega arith), eq-eqb (module_number m.kind) te_kind k) at kept in
    record { dos = λ e. absurd (omega arith); before = seen.0 (λ z. omega arith); after = seen.1.1.0 (λ z. omega arith) }

-- a module whose items are kept has its headers kept, where it isn't broken
pub items_seen : (a b : List ℕ) (lo hi : ℕ) (m : Module) → Empty m ⊎ Lies lo hi m → (module_number m.kind ≡ bad_kind → ⊥) → Kept a b (items a m) → Seen a b m
unfolding items
items_seen a b lo hi m (inl (inl e)) ok kept =
    rw e
    (record {
      dos = λ k. absurd (omega arith);
      before = record { same = λ j h. absurd (omega arith) };
      after = record { same = λ j h. absurd (omega arith) };
    })
items_seen a b lo hi m (inl (inr e)) ok kept = absurd (ok (rw e))
items_seen a b lo hi m (inr lies) ok kept =
    heads_seen a b m lies.kind (kept_left a b (heads_from m (head_count m)) (blocks_from a m m.size 0) kept)

-- and its section headers
pub rows_seen : (a b : List ℕ) (lo hi : ℕ) (m : Module) → Empty m ⊎ Lies lo hi m → Seen a b m → Alike a b m.table (40 * m.rows)
rows_seen a b lo hi m (inl (inl e)) seen = rw e (record { same = λ j h. absurd (omega arith) })
rows_seen a b lo hi m (inl (inr e)) seen = rw e (record { same = λ j h. absurd (omega arith) })
rows_seen a b lo hi m (inr lies) seen =
    alike_in seen.after m.table (40 * m.rows) lies.base_within (omega (arith, lies.base_within))
