-- How the list of an image is written.
-- Assumes nothing.
use Prim.Native.Nat.{ℕ, suc, ◌+◌, ◌-◌, ◌*◌, ◌≤◌, ◌<◌}
use Rattle.std.specs.Prelude.{List, ◌≡◌}
use Rattle.std.proofs.Common.{sym, add-one}
use native.Mathlib.Omega.{arith}
use Rattle.std.proofs.Math.ListN.{length, length-append}
use Rattle.words.specs.Le.{le}
use Rattle.words.specs.Put.{put, put_all}
use Rattle.table.specs.Passes.{place}
use Rattle.inside_judge.specs.Rules.{patch_from, patch_items}
use Rattle.answers.specs.declared.Reading.{Reading}
use Rattle.reading_rules.specs.Reading.{entries_at, file_at}
use Rattle.reading_rules.specs.Guarantee.{Guaranteed}
use Rattle.inside_list.specs.Inventory.{entry, inventory}
use Rattle.inside_list.specs.Filling.{put_join}
use Rattle.contents.specs.Listing.{coded, table_entries, entries_for}
use Rattle.contents.specs.ListingLaws.{table_length}

-- the patch words from that of entry i on
abbrev pub patches_left : List ℕ → ℕ → ℕ → ℕ → List ℕ
patches_left xs t n i = coded 8 (patch_from xs t i (n - i))

module _ (xs : List ℕ) (t n : ℕ) where
  pub patches_first : (l : List ℕ) → put_all 4 l (4 * 0 + 4) (patches_left xs t n 0) ≡ put_all 4 l 4 (coded 8 (patch_items xs t n))
  patches_first l = let e : n - 0 ≡ n = omega arith in rw e

  -- one is written, and the next comes after it
  pub patches_next : (l : List ℕ) (i : ℕ) → i < n
      → put_all 4 (put 4 l (4 * i + 4) (entry 8 (place xs t i).at)) (4 * (i + 1) + 4) (patches_left xs t n (i + 1))
      ≡ put_all 4 l (4 * i + 4) (patches_left xs t n i)
  unfolding patch_from coded put_all
  patches_next l i h =
      let e : n - i ≡ suc (n - suc i) = omega arith in
      let a : 4 * (i + 1) + 4 ≡ 4 * i + 4 + 4 = omega arith in
      rw (e, a, add-one)

  -- none is left
  pub patches_end : (l : List ℕ) (i : ℕ) → n ≤ i → put_all 4 l (4 * i + 4) (patches_left xs t n i) ≡ l
  unfolding patch_from coded put_all
  patches_end l i h = let e : n - i ≡ 0 = omega arith in rw e

module _ (xs : List ℕ) (r : Reading) (g : Guaranteed xs r) where
  abbrev modules : List ℕ
  modules = inventory xs (le 8 xs 32) (file_at r)

  pub all_length : length (entries_for xs r) ≡ r.n + 1 + length modules
  unfolding entries_for
  all_length = omega (arith, length-append (table_entries xs r) modules, table_length xs r g)

  -- the base word, the patch words and the modules written one after the other are the whole list
  pub all_written : (l : List ℕ)
      → put_all 4 (put_all 4 (put 4 l 0 (entry 7 (r.H + 28))) 4 (coded 8 (patch_items xs (entries_at r) r.n))) (4 * (r.n + 1)) modules
      ≡ put_all 4 l 0 (entries_for xs r)
  unfolding entries_for put_all
  all_written l =
      let e : 4 * (r.n + 1) ≡ 0 + 4 * length (table_entries xs r) = omega (arith, table_length xs r g) in
      rw e (sym (put_join l 0 (table_entries xs r) modules))
