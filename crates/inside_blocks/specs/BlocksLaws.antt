-- The cursor goes through the items of a module.
-- Assumes nothing.
use Rattle.inside_rows.specs.Rows.{pe_kind, te_kind, module_number}
use Prim.Native.Nat.{ℕ, zero, suc, ◌+◌, ◌-◌, ◌*◌, ◌/◌, ◌%◌, ◌≤◌, ◌<◌}
use Rattle.std.specs.Prelude.{Bool, true, false, ◌≡◌, ltb, eqb}
use mathlib.Core.List.{List, [], ◌∷◌, ◌++◌}
use Rattle.std.proofs.Math.Path.{refl, ap}
use Rattle.std.proofs.Common.{sym, ◌∙◌, lt-ltb, le-ltb}
use native.Mathlib.Omega.{arith}
use Rattle.std.proofs.Math.Decide.{dec_lt}
use Rattle.facts.specs.Fact.{Holds, Says, test}
use Rattle.facts.specs.FactLaws.{says, passes, fails}
use Rattle.facts.specs.RulesLaws.{by_cond}
use Rattle.words.specs.Le.{le}
use Rattle.items.specs.declared.Item.{Item}
use Rattle.items.specs.Items.{keep, broken, end_kind, kind_number}
use Rattle.inside_rows.specs.declared.Module.{Module}
use Rattle.inside_modules.specs.ModulesFit.{Fits}
use Rattle.inside_places.specs.declared.Span.{Span}
use Rattle.inside_places.specs.Places.{found}
use Rattle.inside_blocks.specs.declared.Cursor.{Cursor}
use Rattle.inside_blocks.specs.declared.Turn.{Turn}
use Rattle.inside_blocks.specs.Blocks.{head_item, heads_from, head_count, item_of, entries_from, block_fits, blocks_from, items}
use Rattle.inside_blocks.specs.BlocksWalk.{ahead, start_of}
use Rattle.inside_blocks.specs.BlocksWalk.{far, Valid, Stepped, Met}

module _ (xs : List ℕ) (m : Module) where
  -- the block at u bytes of the directory
  abbrev pub block_at : ℕ → Span
  block_at u = found xs m (m.dir + u) 8

  abbrev pub size_at : ℕ → ℕ
  size_at u = le 4 xs ((block_at u).at + 4)

  abbrev pub entries_of : ℕ → List Item
  entries_of u = entries_from xs m (le 4 xs (block_at u).at) ((block_at u).at + 8) ((size_at u - 8) / 2)

  pub blocks_none : (u : ℕ) → blocks_from xs m 0 u ≡ []
  unfolding blocks_from
  blocks_none u = refl

  -- the three ways on
  pub blocks_end : (n u : ℕ) → m.size ≤ u → blocks_from xs m n u ≡ []
  unfolding blocks_from
  blocks_end zero u h = refl
  blocks_end (suc n) u h = rw (le-ltb u m.size h)

  pub blocks_broken : (n u : ℕ) → u < m.size → (Holds (block_fits xs m (block_at u)) → ⊥)
      → blocks_from xs m (suc n) u ≡ broken (block_at u).at 8 ∷ []
  unfolding blocks_from
  blocks_broken n u h bad = rw (lt-ltb u m.size h, fails (block_fits xs m (block_at u)) bad)

  pub blocks_next : (n u : ℕ) → u < m.size → Holds (block_fits xs m (block_at u))
      → blocks_from xs m (suc n) u ≡ keep (block_at u).at (size_at u) ∷ (entries_of u ++ blocks_from xs m n (u + size_at u))
  unfolding blocks_from
  blocks_next n u h ok = rw (lt-ltb u m.size h, passes (block_fits xs m (block_at u)) ok)

  -- more room for blocks than there can be changes nothing
  pub blocks_room : (n k u : ℕ) → m.size ≤ u + n → m.size ≤ u + k → blocks_from xs m n u ≡ blocks_from xs m k u
  blocks_room zero k u a b = blocks_none u ∙ sym (blocks_end k u (omega arith))
  blocks_room (suc n) zero u a b = blocks_end (suc n) u (omega arith) ∙ sym (blocks_none u)
  blocks_room (suc n) (suc k) u a b =
      elim (dec_lt u m.size) [
        | no h ↦ blocks_end (suc n) u (omega arith) ∙ sym (blocks_end (suc k) u (omega arith))
        | yes h ↦ go h (test (block_fits xs m (block_at u))) (says (block_fits xs m (block_at u))) (blocks_room n k (u + size_at u))
      ]
    where
      go : u < m.size → (t : Bool) → Says t (Holds (block_fits xs m (block_at u)))
          → (m.size ≤ u + size_at u + n → m.size ≤ u + size_at u + k → blocks_from xs m n (u + size_at u) ≡ blocks_from xs m k (u + size_at u))
          → blocks_from xs m (suc n) u ≡ blocks_from xs m (suc k) u
      go h false bad rest = blocks_broken n u h bad ∙ sym (blocks_broken k u h bad)
      go h true ok rest =
          let same = rest (omega (arith, ok.1.0)) (omega (arith, ok.1.0)) in
          blocks_next n u h ok ∙ rw same (sym (blocks_next k u h ok))

  -- one entry more
  pub entries_more : (page at i : ℕ)
      → entries_from xs m page at (suc i) ≡ entries_from xs m page at i ++ (item_of xs m page (le 2 xs (at + 2 * i)) ∷ [])
  unfolding entries_from
  entries_more page at zero = let e : at + 2 * 0 ≡ at = omega arith in rw e
  entries_more page at (suc i) =
      let e : at + 2 + 2 * i ≡ at + 2 * suc i = omega arith in
      ap (λ (l : List Item). item_of xs m page (le 2 xs at) ∷ l) (entries_more page (at + 2) i ∙ rw e)

  -- ---- what is ahead of a cursor

  pub ahead_head : (c : Cursor) → 1 ≤ c.heads
      → ahead xs m c
      ≡ head_item m (c.heads - 1)
      ∷ ahead xs m (record { heads = c.heads - 1; used = c.used; at = c.at; left = c.left; page = c.page })
  unfolding ahead heads_from
  ahead_head c h =
      let e : c.heads ≡ suc (c.heads - 1) = omega arith in
      let rest = entries_from xs m c.page c.at c.left ++ blocks_from xs m (m.size - c.used) c.used in
      ap (λ (n : ℕ). heads_from m n ++ rest) e

  pub ahead_end : (c : Cursor) → c.heads ≡ 0 → c.left ≡ 0 → m.size ≤ c.used → ahead xs m c ≡ []
  unfolding ahead heads_from entries_from
  ahead_end c z e h = rw (z, e) (blocks_end (m.size - c.used) c.used h)

  pub ahead_entry : (c : Cursor) → c.heads ≡ 0 → 1 ≤ c.left
      → ahead xs m c
      ≡ item_of xs m c.page (le 2 xs c.at)
      ∷ ahead xs m (record { heads = c.heads; used = c.used; at = c.at + 2; left = c.left - 1; page = c.page })
  unfolding ahead heads_from entries_from
  ahead_entry c z h =
      let e : c.left ≡ suc (c.left - 1) = omega arith in
      rw z (ap (λ (n : ℕ). entries_from xs m c.page c.at n ++ blocks_from xs m (m.size - c.used) c.used) e)

  pub ahead_broken : (c d : Cursor) → c.heads ≡ 0 → c.left ≡ 0 → c.used < m.size → (Holds (block_fits xs m (block_at c.used)) → ⊥)
      → d.heads ≡ 0 → d.left ≡ 0 → m.size ≤ d.used → ahead xs m c ≡ broken (block_at c.used).at 8 ∷ ahead xs m d
  unfolding ahead heads_from entries_from
  ahead_broken c d z e h bad y f g =
      let n : m.size - c.used ≡ suc (m.size - c.used - 1) = omega arith in
      rw (z, e, n)
      (blocks_broken _ c.used h bad ∙ ap (λ (l : List Item). broken (block_at c.used).at 8 ∷ l) (sym (ahead_end d y f g)))

  pub ahead_block : (c : Cursor) → c.heads ≡ 0 → c.left ≡ 0 → c.used < m.size → Holds (block_fits xs m (block_at c.used))
      → ahead xs m c
      ≡ keep (block_at c.used).at (size_at c.used)
      ∷ ahead xs m (record {
        heads = 0;
        used = c.used + size_at c.used;
        at = (block_at c.used).at + 8;
        left = (size_at c.used - 8) / 2;
        page = le 4 xs (block_at c.used).at;
      })
  unfolding ahead heads_from entries_from
  ahead_block c z e h ok =
      let n : m.size - c.used ≡ suc (m.size - c.used - 1) = omega arith in
      let u = c.used + size_at c.used in
      let same = blocks_room (m.size - c.used - 1) (m.size - u) u (omega (arith, ok.1.0)) (omega arith) in
      rw (z, e, n) (blocks_next _ c.used h ok ∙ rw same)

  -- from the start on it has all
  pub ahead_start : ahead xs m (start_of m) ≡ items xs m
  unfolding ahead entries_from items start_of
  ahead_start = let n : m.size - 0 ≡ m.size = omega arith in rw n

pub count_few : (m : Module) → head_count m ≤ 4
unfolding head_count
count_few m =
    by_cond (λ (n : ℕ). n ≤ 4) (eqb (module_number m.kind) pe_kind) _ _ (λ e. omega arith)
    (λ e. by_cond (λ (n : ℕ). n ≤ 4) (eqb (module_number m.kind) te_kind) _ _ (λ f. omega arith) (λ f. omega arith))

pub start_valid : (xs : List ℕ) (m : Module) → Valid xs (start_of m)
unfolding start_of
start_valid xs m = record { few = count_few m; within = omega arith; used_small = omega arith; page_small = omega arith }

-- and no module takes more steps than this
pub start_far : (xs : List ℕ) (m : Module) → Fits xs m → far m (start_of m) < 1152921504606846976
unfolding start_of
start_far xs m fits = omega (arith, count_few m, fits.size_small)

-- ---- a block by itself

-- one header less
pub heads_next : (m : Module) (k : ℕ) → 1 ≤ k → heads_from m k ≡ head_item m (k - 1) ∷ heads_from m (k - 1)
unfolding heads_from
heads_next m k h = let e : k ≡ suc (k - 1) = omega arith in ap (λ (n : ℕ). heads_from m n) e

pub heads_none : (m : Module) → heads_from m 0 ≡ []
unfolding heads_from
heads_none m = refl

module _ (xs : List ℕ) (m : Module) (u : ℕ) where
  -- the cursor that stands before it
  abbrev pub before : Cursor
  before = record { heads = 0; used = u; at = 0; left = 0; page = 0 }

  ahead_before : ahead xs m before ≡ blocks_from xs m (m.size - u) u
  unfolding ahead heads_from entries_from
  ahead_before = refl

  ahead_after : (c : Cursor) → c.heads ≡ 0
      → ahead xs m c ≡ entries_from xs m c.page c.at c.left ++ blocks_from xs m (m.size - c.used) c.used
  unfolding ahead
  ahead_after c z = rw (z, heads_none m)

  pub met : (s : Turn) → u < m.size → Stepped xs m before s → s.next.heads ≡ 0 → 1 ≤ kind_number s.item.kind → Met xs m u s
  met s h step z some =
      let is : kind_number s.item.kind ≡ end_kind → ⊥ = λ e. omega arith in
      record {
        all = sym ahead_before ∙ step.goes is ∙ ap (λ (l : List Item). s.item ∷ l) (ahead_after s.next z);
        less = omega (arith, step.less is);
        valid = step.valid;
        small = step.small;
      }
