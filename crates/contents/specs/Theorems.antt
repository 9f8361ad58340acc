-- That the promise of the list's call admits one answer, which numbers it gives, and what stands in the list, entry by entry.
-- Assumes nothing.
use Prim.{tt}
use Rattle.std.specs.Prelude.{ℕ, zero, suc, ◌+◌, ◌*◌, ◌≤◌, ◌<◌, List, ◌≡◌, refl, length, get_or}
use Rattle.std.proofs.Common.{inl, inr, sym, ◌∙◌, arith, mod-eq_of_lt}
use Rattle.facts.specs.Fact.{◌≤?◌}
use Rattle.facts.specs.RulesLaws.{by_test}
use Rattle.words.specs.Le.{le}
use Rattle.words.specs.Put.{put_all}
use Rattle.words.specs.PutLaws.{put_all_above, le_put_all}
use Rattle.inside_judge.specs.Rules.{patch_from}
use Rattle.answers.specs.declared.Reading.{Reading}
use Rattle.reading_rules.specs.Reading.{entries_at, file_at, reading2, Read2}
use Rattle.reading_rules.specs.Guarantee.{Guaranteed}
use Rattle.reading_rules.specs.Edition.{guaranteed}
use Rattle.answers.specs.AfterLaws.{changed_so, kept_so}
use Rattle.reading_rules.specs.Numbers.{Numbered, OwnList}
use Rattle.reading_rules.specs.NumbersLaws.{after_every, numbered_own2, own_number, own_zero}
use Rattle.inside_list.specs.Inventory.{inventory}
use Rattle.inside_list.specs.Narrow.{Narrow, narrow_at, narrow_join, inventory_narrow}
use Rattle.answers.specs.declared.Listed.{Listed}
use Rattle.contents.specs.Listing.{coded, table_entries, entries_for, listing, refused_list, contents, contents_in, Lists}
use Rattle.contents.specs.ListingLaws.{list_accepted}

-- any two outcomes that it admits are the same
pub one_listing : (xs bytes : List ℕ) (a b : Listed) (l m : List ℕ) → Lists xs bytes a l → Lists xs bytes b m → (a ≡ b) × (l ≡ m)
one_listing xs bytes a b l m (p, q) (s, t) = (p ∙ sym s, q ∙ sym t)

pub listing_numbered : (xs : List ℕ) (room : ℕ) → Numbered xs OwnList (contents xs room).number (contents xs room).index
unfolding contents
listing_numbered xs room =
    after_every refused_list (λ (a : Listed). Numbered xs OwnList a.number a.index) (reading2 xs) _ (λ h. numbered_own2 xs OwnList (inl refl))
    (λ ok. by_test (λ (k : ℕ). Numbered xs OwnList k 0) (4 * length (listing xs) ≤? room) 0 20 (λ e. own_zero xs OwnList)
    (λ e. own_number xs OwnList 20 (inr refl)))

-- a refused call changes no byte of the list
pub contents_kept : (xs bytes : List ℕ) → ((contents xs (length bytes)).number ≡ 0 → ⊥) → contents_in xs bytes ≡ bytes
unfolding contents_in
contents_kept xs bytes h = kept_so (contents xs (length bytes)).number (put_all 4 bytes 0 (listing xs)) bytes h

-- ---- what an accepted call leaves in the list

coded_narrow : (xs : List ℕ) (r : Reading) → Guaranteed xs r → (i k : ℕ) → i + k ≤ r.n
    → Narrow (coded 8 (patch_from xs (entries_at r) i k))
unfolding patch_from coded
coded_narrow xs r g i zero h = tt
coded_narrow xs r g i (suc k) h =
    (omega (arith, g.word_within i (omega arith), g.length_most), coded_narrow xs r g (suc i) k (omega arith))

listing_narrow : (xs : List ℕ) → Read2 xs → Narrow (listing xs)
unfolding listing entries_for
listing_narrow xs ok =
    let r = reading2 xs in
    let g = guaranteed xs ok in
    narrow_join (table_entries xs r) (inventory xs (le 8 xs 32) (file_at r)) (omega (arith, g), coded_narrow xs r g 0 r.n (omega arith))
    (inventory_narrow xs (le 8 xs 32) (file_at r) g.walkable)

module _ (xs bytes : List ℕ) (ok : (contents xs (length bytes)).number ≡ 0) where
  written : contents_in xs bytes ≡ put_all 4 bytes 0 (listing xs)
  unfolding contents_in
  written = changed_so (contents xs (length bytes)).number (put_all 4 bytes 0 (listing xs)) bytes ok

  -- place i holds entry i, in four bytes
  pub listed_entry : (i : ℕ) → i < length (listing xs) → le 4 (contents_in xs bytes) (4 * i) ≡ get_or (listing xs) i 0
  listed_entry i h =
      let passed = list_accepted xs (length bytes) ok in
      let z : 0 + 4 * i ≡ 4 * i = omega arith in
      rw written
      (rw z at (le_put_all 4 bytes 0 (listing xs) i (omega (arith, passed.1)) h)
      ∙ mod-eq_of_lt (narrow_at (listing xs) (listing_narrow xs passed.0) i))

  -- bytes after the last entry are kept
  pub listed_kept : (i : ℕ) → 4 * length (listing xs) ≤ i → get_or (contents_in xs bytes) i 0 ≡ get_or bytes i 0
  listed_kept i h = rw written (put_all_above 4 bytes 0 (listing xs) i (omega arith))
