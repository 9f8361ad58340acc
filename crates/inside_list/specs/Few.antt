-- How many entries there can be: a count of them doesn't wrap.
-- Assumes nothing.
use Prim.Native.Nat.{ℕ, zero, suc, ◌+◌, ◌-◌, ◌*◌, ◌/◌, ◌≤◌, ◌<◌}
use Rattle.std.specs.Prelude.{Bool, true, false, ◌≡◌, ltb, eqb}
use mathlib.Core.List.{List, [], ◌∷◌, ◌++◌}
use Rattle.std.proofs.Math.Path.{refl}
use Rattle.std.proofs.Common.{sym, ap, ◌∙◌, length-append}
use native.Mathlib.Omega.{arith}
use Rattle.std.proofs.Math.Decide.{ℕ_discrete, dec_lt}
use borrow.Author.Tests.{eq-eqb, ne_eqb, ltb-true}
use Rattle.std.proofs.Math.ListN.{length}
use Rattle.words.specs.Round.{round8, round4}
use Rattle.facts.specs.Fact.{Holds, Says, test}
use Rattle.facts.specs.FactLaws.{says}
use Rattle.facts.specs.RulesLaws.{by_cond, by_test}
use Rattle.words.specs.Le.{le, Bytes}
use Rattle.items.specs.declared.Item.{Item}
use Rattle.items.specs.Items.{words_in, word_kind, kind_number}
use Rattle.inside_files.specs.declared.Part.{Part}
use Rattle.inside_files.specs.declared.Place.{Place}
use Rattle.inside_files.specs.Parts.{free, file_fits, section_fits, sections_from, sections_at, files_from, parts, first_place}
use Rattle.inside_files.specs.Parts as files
use Rattle.inside_files.specs.PartsLaws.{sections_at_lem, files_end}
use Rattle.inside_files.specs.PartsEach.{Each, Met}
use Rattle.inside_rows.specs.declared.Module.{Module}
use Rattle.inside_modules.specs.ModulesFit.{Fits}
use Rattle.inside_blocks.specs.Blocks.{heads_from, head_count, entries_from, block_fits, blocks_from, items}
use Rattle.inside_blocks.specs.BlocksLaws.{block_at, size_at, entries_of, blocks_end, count_few}
use Rattle.inside_walk.specs.Whole.{module_in}
use Rattle.inside_walk.specs.WholeLaws.{module_in_fits}
use Rattle.inside_walk.specs.Walkable.{Walkable}
use Rattle.inside_list.specs.Inventory as inventory
use Rattle.inside_list.specs.Inventory.{module_entries, file_of, inventory}
use Rattle.inside_list.specs.InventoryLaws.{word_count, module_more, module_none, parts_met}

-- ---- the items of a module

module _ (xs : List ℕ) (m : Module) where
  entries_count : (page at k : ℕ) → length (entries_from xs m page at k) ≡ k
  unfolding entries_from
  entries_count page at zero = refl
  entries_count page at (suc k) = rw (entries_count page (at + 2) k)

  heads_count : (k : ℕ) → length (heads_from m k) ≡ k
  unfolding heads_from
  heads_count zero = refl
  heads_count (suc k) = rw (heads_count k)

  -- a block ends in the module, and takes more bytes of the directory than it has entries
  blocks_few : Fits xs m → (n u : ℕ) → length (blocks_from xs m n u) ≤ (m.size - u) + 16777216
  unfolding blocks_from
  blocks_few fits zero u = omega arith
  blocks_few fits (suc n) u =
      by_cond (λ (l : List Item). length l ≤ (m.size - u) + 16777216) (ltb u m.size) _ _
      (λ h. by_test (λ (l : List Item). length l ≤ (m.size - u) + 16777216) (block_fits xs m (block_at xs m u)) _ _
      (λ ok. next (ltb-true u m.size h) ok (dec_lt (u + size_at xs m u) m.size) (blocks_few fits n (u + size_at xs m u)))
      (λ bad. omega (arith, ltb-true u m.size h)))
      (λ h. omega arith)
    where
      next : u < m.size → Holds (block_fits xs m (block_at xs m u)) → Dec (u + size_at xs m u < m.size)
          → length (blocks_from xs m n (u + size_at xs m u)) ≤ (m.size - (u + size_at xs m u)) + 16777216
          → suc (length (entries_of xs m u ++ blocks_from xs m n (u + size_at xs m u))) ≤ (m.size - u) + 16777216
      next h ok (yes more) rest =
          let e = entries_count (le 4 xs (block_at xs m u).at) ((block_at xs m u).at + 8) ((size_at xs m u - 8) / 2) in
          rw (length-append (entries_of xs m u) (blocks_from xs m n (u + size_at xs m u)), e) (omega (arith, ok.1.0))
      next h ok (no last) rest =
          let e = entries_count (le 4 xs (block_at xs m u).at) ((block_at xs m u).at + 8) ((size_at xs m u - 8) / 2) in
          let z = blocks_end xs m n (u + size_at xs m u) (omega arith) in
          rw (length-append (entries_of xs m u) (blocks_from xs m n (u + size_at xs m u)), e, z)
          (omega (arith, ok.1.1.1.0, ok.1.1.1.1, fits.within, fits.long))

  items_few : Fits xs m → length (items xs m) ≤ 4 + m.size + 16777216
  unfolding items
  items_few fits =
      rw (length-append (heads_from m (head_count m)) (blocks_from xs m m.size 0), heads_count (head_count m))
      (omega (arith, count_few m, blocks_few fits m.size 0))

words_less : (l : List Item) → length (words_in l) ≤ length l
unfolding words_in
words_less [] = omega arith
words_less (x ∷ l) =
    by_cond (λ (k : List Item). length k ≤ suc (length l)) (eqb (kind_number x.kind) word_kind) _ _
    (λ e. omega (arith, words_less l)) (λ e. omega (arith, words_less l))

pub words_few : (xs : List ℕ) (m : Module) → Fits xs m → length (words_in (items xs m)) < 8589934592
words_few xs m fits = omega (arith, words_less (items xs m), items_few xs m fits, fits.size_small)

-- ---- the parts of a volume

sections_few : (xs : List ℕ) (end n p : ℕ) → length (sections_from xs end n p) ≤ n
unfolding sections_from
sections_few xs end zero p = omega arith
sections_few xs end (suc n) p =
    by_cond (λ (l : List Part). length l ≤ suc n) (ltb p end) _ _
    (λ h. by_test (λ (l : List Part). length l ≤ suc n) (section_fits xs end p) _ _
    (λ ok. omega (arith, sections_few xs end n (round4 (p + le 3 xs p)))) (λ bad. omega arith))
    (λ h. omega arith)

files_few : (xs : List ℕ) (v n f : ℕ) → length (files_from xs v n f) ≤ v - f
unfolding files_from
files_few xs v zero f = omega arith
files_few xs v (suc n) f =
    by_cond (λ (l : List Part). length l ≤ v - f) (ltb f v) _ _
    (λ h. by_test (λ (l : List Part). length l ≤ v - f) (free xs v f) _ _ (λ o. omega (arith, ltb-true f v h))
    (λ o. by_test (λ (l : List Part). length l ≤ v - f) (file_fits xs v f) _ _
    (λ ok. let end = f + le 3 xs (f + 20) in
    rw (length-append (sections_from xs end (end - sections_at xs f) (sections_at xs f)) (files_from xs v n (round8 end)))
    (omega (
      arith,
      sections_few xs end (end - sections_at xs f) (sections_at xs f),
      files_few xs v n (round8 end),
      (sections_at_lem xs f ok.1.1.1.0).0,
      ok.1.1.1.0,
      ok.1.1.1.1,
    )))
    (λ bad. omega (arith, ltb-true f v h))))
    (λ h. omega arith)

parts_few : (xs : List ℕ) (v : ℕ) (c : Place) → length (files.ahead xs v c) ≤ (c.end - c.at) + (v - c.file)
unfolding files.ahead
parts_few xs v c =
    rw (length-append (sections_from xs c.end (c.end - c.at) c.at) (files_from xs v (v - c.file) c.file))
    (omega (arith, sections_few xs c.end (c.end - c.at) c.at, files_few xs v (v - c.file) c.file))

-- ---- the list

module_few : (xs : List ℕ) (file at : ℕ) (m : Module) → Fits xs m → length (module_entries xs file at m) ≤ 17179869184
module_few xs file at m fits = go (test (inventory.is_module m)) (says (inventory.is_module m))
  where
    go : (t : Bool) → Says t (Holds (inventory.is_module m)) → length (module_entries xs file at m) ≤ 17179869184
    go true is = rw (module_more xs file at m is, word_count 3 (items xs m)) (omega (arith, words_few xs m fits))
    go false other = rw (module_none xs file at m other) (omega arith)

entries_few : (xs : List ℕ) (file : ℕ) (l : List Part) → Bytes xs → length xs ≤ 16777216 → Each (Met 0 (length xs)) l
    → length (inventory.entries_of xs file l) ≤ length l * 17179869184
unfolding inventory.entries_of Each
entries_few xs file [] bytes long h = omega arith
entries_few xs file (p ∷ l) bytes long (met, t) =
    let m = module_in xs p in
    let g = file_of file p in
    rw (length-append (module_entries xs g p.at m) (inventory.entries_of xs g l))
    (omega (arith, module_few xs g p.at m (module_in_fits xs p bytes long met.within), entries_few xs g l bytes long t))

pub inventory_few : (xs : List ℕ) (v f : ℕ) → Bytes xs → Walkable xs v f → length (inventory xs v f) ≤ 576460752303423488
unfolding inventory first_place
inventory_few xs v f bytes w =
    omega (
      arith,
      entries_few xs f (parts xs v f) bytes w.small (parts_met xs v f w),
      parts_few xs v (first_place xs f),
      w.ends,
      w.within,
      w.small,
    )
