-- What the listing walk keeps.
-- Assumes nothing.
use Rattle.inside_files.specs.Parts.{header_part, no_part, part_number}
use Rattle.std.specs.Prelude.{ℕ, suc, ◌+◌, ◌*◌, ◌/◌, ◌≤◌, List, [], ◌∷◌, ◌++◌, ◌≡◌, refl, eqb}
use Rattle.std.proofs.Common.{sym, ◌∙◌}
use Rattle.std.proofs.Math.Path.{ap}
use native.Mathlib.Omega.{arith}
use Rattle.std.proofs.Math.ListN.{length, length-append}
use Rattle.facts.specs.Fact.{Holds}
use Rattle.facts.specs.RulesLaws.{by_cond}
use Rattle.words.specs.Put.{put, put_all}
use Rattle.words.specs.PutLaws.{length_put, length_put_all}
use Rattle.items.specs.declared.Item.{Item}
use Rattle.items.specs.Items.{each, inside, end_kind, word_kind, kind_number}
use Rattle.inside_files.specs.declared.Part.{Part}
use Rattle.inside_files.specs.declared.Place.{Place}
use Rattle.inside_files.specs.declared.Turn.{Turn}
use Rattle.inside_files.specs.Parts as files
use Rattle.inside_files.specs.PartsWalk as filesWalk
use Rattle.inside_rows.specs.declared.Module.{Module}
use Rattle.inside_blocks.specs.declared.Cursor.{Cursor}
use Rattle.inside_blocks.specs.declared.Turn as blocks_turn
use Rattle.inside_blocks.specs.Blocks.{items}
use Rattle.inside_blocks.specs.BlocksWalk.{start_of}
use Rattle.inside_blocks.specs.BlocksWalk as blocksWalk
use Rattle.inside_blocks.specs.BlocksLaws.{ahead_start, start_valid}
use Rattle.inside_walk.specs.Whole.{module_in}
use Rattle.inside_walk.specs.Walkable.{Walkable}
use Rattle.inside_list.specs.declared.Next.{Next}
use Rattle.inside_list.specs.Inventory.{entry, word_entries, is_module, module_entries, file_of, entries_of, inventory}
use Rattle.inside_list.specs.InventoryLaws.{word_more, word_same, module_more, module_none}
use Rattle.inside_list.specs.Counting.{place_valid}

-- two lists of entries written one after the other
pub put_join : (l : List ℕ) (at : ℕ) (a b : List ℕ) → put_all 4 l at (a ++ b) ≡ put_all 4 (put_all 4 l at a) (at + 4 * length a) b
unfolding put_all
put_join l at [] b = let e : at + 4 * 0 ≡ at = omega arith in rw e
put_join l at (w ∷ a) b =
    let e : at + 4 * suc (length a) ≡ at + 4 + 4 * length a = omega arith in rw e (put_join (put 4 l at w) (at + 4) a b)

-- ---- the words of one module

-- x is passed: n becomes u, and the list l becomes k
pub record Filled (l k : List ℕ) (n : Next) (x : Item) (u : Next) : Type 0 where
  pub code : u.code ≤ 5
  pub long : length k ≡ length l
  pub room : (rest : List Item) → u.at + length (word_entries u.code rest) ≡ n.at + length (word_entries n.code (x ∷ rest))
  pub kept : (rest : List Item) → put_all 4 k (4 * u.at) (word_entries u.code rest) ≡ put_all 4 l (4 * n.at) (word_entries n.code (x ∷ rest))

pub filled_word : (l : List ℕ) (n : Next) (x : Item) → kind_number x.kind ≡ word_kind
    → Filled l (put 4 l (4 * n.at) (entry (n.code + x.len / 8) x.at)) n x (record { at = n.at + 1; code = 5 })
unfolding put_all
filled_word l n x k =
    let e : 4 * (n.at + 1) ≡ 4 * n.at + 4 = omega arith in
    record {
      code = omega arith;
      long = length_put 4 l (4 * n.at) _;
      room = λ rest. rw (word_more n.code x rest k) (omega arith);
      kept = λ rest. rw (word_more n.code x rest k, e);
    }

pub filled_other : (l : List ℕ) (n : Next) (x : Item) → n.code ≤ 5 → (kind_number x.kind ≡ word_kind → ⊥) → Filled l l n x n
filled_other l n x code k =
    record { code = code; long = refl; room = λ rest. rw (word_same n.code x rest k); kept = λ rest. rw (word_same n.code x rest k) }

-- l₀ became l, n comes next in it, and c in the module
pub record FillingWords (xs : List ℕ) (m : Module) (l₀ : List ℕ) (i : ℕ) (l : List ℕ) (n : Next) (c : Cursor) : Type 0 where
  pub valid : blocksWalk.Valid xs c
  pub code : n.code ≤ 5
  pub within : Holds (each (inside 16777216) (blocksWalk.ahead xs m c))
  pub long : length l ≡ length l₀
  pub room : n.at + length (word_entries n.code (blocksWalk.ahead xs m c)) ≡ i + length (word_entries 3 (items xs m))
  pub kept : put_all 4 l (4 * n.at) (word_entries n.code (blocksWalk.ahead xs m c)) ≡ put_all 4 l₀ (4 * i) (word_entries 3 (items xs m))

module _ (xs : List ℕ) (m : Module) (l₀ : List ℕ) (i : ℕ) where
  pub filling_start : (c : Cursor) → c ≡ start_of m → Holds (each (inside 16777216) (items xs m))
      → FillingWords xs m l₀ i l₀ (record { at = i; code = 3 }) c
  filling_start c e h =
      rw e
      (record {
        valid = start_valid xs m;
        code = omega arith;
        within = rw (ahead_start xs m) h;
        long = refl;
        room = rw (ahead_start xs m);
        kept = rw (ahead_start xs m);
      })

  module _ (l : List ℕ) (n : Next) (c : Cursor) (t : blocks_turn.Turn) (g : FillingWords xs m l₀ i l n c) (step : blocksWalk.Stepped xs m c t)
    where
      pub filling_done : kind_number t.item.kind ≡ end_kind
          → (n.at ≡ i + length (word_entries 3 (items xs m))) × (l ≡ put_all 4 l₀ (4 * i) (word_entries 3 (items xs m)))
      unfolding word_entries put_all
      filling_done z =
          let r : n.at + 0 ≡ i + length (word_entries 3 (items xs m)) = rw (step.ends z) at g.room in
          (omega arith, rw (step.ends z) at g.kept)

      module _ (is : kind_number t.item.kind ≡ end_kind → ⊥) where
        pub word_inside : Holds (inside 16777216 t.item)
        unfolding each
        word_inside =
            let h : Holds (each (inside 16777216) (t.item ∷ blocksWalk.ahead xs m t.next)) = rw (step.goes is) at g.within in h.0

        -- a word has its place in the list
        pub word_room : 4 * (i + length (word_entries 3 (items xs m))) ≤ length l₀ → kind_number t.item.kind ≡ word_kind → 4 * (n.at + 1) ≤ length l
        word_room fits k =
            let e = ap length (word_more n.code t.item (blocksWalk.ahead xs m t.next) k) in
            let r : n.at + length (word_entries n.code (t.item ∷ blocksWalk.ahead xs m t.next)) ≡ i + length (word_entries 3 (items xs m))
            = rw (step.goes is) at g.room in
            omega (arith, g.long)

        pub filling_on : (k : List ℕ) (u : Next) → Filled l k n t.item u → FillingWords xs m l₀ i k u t.next
        unfolding each
        filling_on k u f =
            let rest = blocksWalk.ahead xs m t.next in
            let h : Holds (each (inside 16777216) (t.item ∷ rest)) = rw (step.goes is) at g.within in
            record {
              valid = step.valid;
              code = f.code;
              within = h.1;
              long = f.long ∙ g.long;
              room = f.room rest ∙ (rw (step.goes is) at g.room);
              kept = f.kept rest ∙ (rw (step.goes is) at g.kept);
            }

-- ---- one module

module _ (xs : List ℕ) (l : List ℕ) (i file at : ℕ) (m : Module) where
  -- the file and the section come first
  pub module_length : Holds (is_module m) → i + length (module_entries xs file at m) ≡ i + 2 + length (word_entries 3 (items xs m))
  module_length is = rw (module_more xs file at m is) (omega arith)

  abbrev pub headed : List ℕ
  headed = put 4 (put 4 l (4 * i) (entry 1 file)) (4 * i + 4) (entry 2 at)

  pub module_listed : Holds (is_module m)
      → put_all 4 headed (4 * (i + 2)) (word_entries 3 (items xs m)) ≡ put_all 4 l (4 * i) (module_entries xs file at m)
  unfolding put_all
  module_listed is = let e : 4 * (i + 2) ≡ 4 * i + 4 + 4 = omega arith in rw (module_more xs file at m is, e)

  pub module_passed : (Holds (is_module m) → ⊥)
      → (i ≡ i + length (module_entries xs file at m)) × (l ≡ put_all 4 l (4 * i) (module_entries xs file at m))
  unfolding put_all
  module_passed other = rw (module_none xs file at m other) (omega arith, refl)

-- ---- the walk

-- l₀ became l, written from entry k on; i comes next in it, and c in the volume
pub record Filling (xs : List ℕ) (v f : ℕ) (l₀ : List ℕ) (k : ℕ) (l : List ℕ) (file i : ℕ) (c : Place) : Type 0 where
  pub valid : filesWalk.Valid v c
  pub small : file ≤ 33554432
  pub long : length l ≡ length l₀
  pub room : i + length (entries_of xs file (files.ahead xs v c)) ≡ k + length (inventory xs v f)
  pub kept : put_all 4 l (4 * i) (entries_of xs file (files.ahead xs v c)) ≡ put_all 4 l₀ (4 * k) (inventory xs v f)

pub of_small : (file : ℕ) (p : Part) → file ≤ 33554432 → p.at + p.len ≤ 33554432 → file_of file p ≤ 33554432
unfolding file_of
of_small file p a b = by_cond (λ (n : ℕ). n ≤ 33554432) (eqb (part_number p.kind) header_part) _ _ (λ e. omega arith) (λ e. a)

module _ (xs : List ℕ) (v f : ℕ) (l₀ : List ℕ) (k : ℕ) where
  pub filling_first : (c : Place) → Walkable xs v f → c ≡ files.first_place xs f → Filling xs v f l₀ k l₀ f k c
  unfolding inventory
  filling_first c w e =
      rw e
      (record {
        valid = place_valid xs v f w;
        small = omega (arith, w.head, w.small);
        long = refl;
        room = refl;
        kept = refl;
      })

  module _ (l : List ℕ) (file i : ℕ) (c : Place) (t : Turn) (g : Filling xs v f l₀ k l file i c) (step : filesWalk.Stepped xs v c t) where
    pub filling_end : part_number t.part.kind ≡ no_part → l ≡ put_all 4 l₀ (4 * k) (inventory xs v f)
    unfolding entries_of put_all
    filling_end z = rw (step.ends z) at g.kept

    module _ (is : part_number t.part.kind ≡ no_part → ⊥) where
      abbrev pub here : List ℕ
      here = module_entries xs (file_of file t.part) t.part.at (module_in xs t.part)

      abbrev pub after : List ℕ
      after = entries_of xs (file_of file t.part) (files.ahead xs v t.next)

      left : i + length (here ++ after) ≡ k + length (inventory xs v f)
      unfolding entries_of
      left = rw (step.goes is) at g.room

      pub module_room : 4 * (k + length (inventory xs v f)) ≤ length l₀ → 4 * (i + length here) ≤ length l
      module_room fits = omega (arith, left, length-append here after, g.long)

      pub filling_next : (l' : List ℕ) (j : ℕ) → j ≡ i + length here → l' ≡ put_all 4 l (4 * i) here
          → Filling xs v f l₀ k l' (file_of file t.part) j t.next
      unfolding entries_of
      filling_next l' j e h =
          let all : put_all 4 l (4 * i) (here ++ after) ≡ put_all 4 l₀ (4 * k) (inventory xs v f) = rw (step.goes is) at g.kept in
          let on : 4 * (i + length here) ≡ 4 * i + 4 * length here = omega arith in
          record {
            valid = step.valid;
            small = of_small file t.part g.small step.small;
            long = ap length h ∙ length_put_all 4 l (4 * i) here ∙ g.long;
            room = omega (arith, left, length-append here after);
            kept = rw (h, e, on) (sym (put_join l (4 * i) here after) ∙ all);
          }
