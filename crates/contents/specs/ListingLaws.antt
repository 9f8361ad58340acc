-- The answer of a list's call, case by case, and what is counted.
-- Assumes nothing.
use Prim.Native.Nat.{ℕ, zero, suc, ◌+◌, ◌*◌, ◌≤◌, ◌<◌}
use mathlib.Core.List.{List, [], ◌∷◌}
use Rattle.std.specs.Prelude.{cond, ◌⊎◌, ◌≡◌, length}
use Rattle.std.proofs.Common.{inl, inr, ◌∙◌}
use Rattle.std.proofs.Math.Path.{refl, sym, ap}
use native.Mathlib.Omega.{arith}
use Rattle.std.proofs.Math.Decide.{ℕ_discrete}
use Rattle.std.proofs.Math.ListN.{length-append}
use Rattle.facts.specs.Fact.{◌≤?◌, test}
use Rattle.facts.specs.FactLaws.{passes, fails}
use Rattle.facts.specs.Rules.{Rules, answer, run}
use Rattle.facts.specs.RulesLaws.{by_test}
use Rattle.words.specs.Le.{le, Bytes}
use Rattle.items.specs.declared.Item.{Item}
use Rattle.items.specs.Items.{word, words_in}
use Rattle.inside_judge.specs.Rules.{patch_from, patch_items}
use Rattle.inside_judge.specs.RulesLaws.{patches_count}
use Rattle.answers.specs.declared.Reading.{Reading}
use Rattle.reading_rules.specs.Reading.{entries_at, file_at, word_at, reading2, Read2}
use Rattle.answers.specs.AfterLaws.{after_accepted, after_refused}
use Rattle.reading_rules.specs.Guarantee.{Guaranteed}
use Rattle.reading_rules.specs.Edition.{guaranteed}
use Rattle.reading_rules.specs.Words.{met, words_of}
use Rattle.move_image.specs.Fixed.{fixed}
use Rattle.move_image.specs.MovingLaws.{words_split}
use Rattle.inside_list.specs.declared.Counts.{Counts}
use Rattle.inside_list.specs.Inventory.{entry, inventory, code_of, place_of, places_of, width_of, words_from, counts_of}
use Rattle.inside_list.specs.InventoryLaws.{places_same, from_more, from_join, four_wide, inventory_words}
use Rattle.inside_list.specs.Counting.{plus, same_counts, counts_join, places_less, from_less, inventory_sum}
use Rattle.inside_list.specs.Few.{inventory_few}
use Rattle.answers.specs.declared.Listed.{Listed}
use Rattle.contents.specs.Listing.{coded, table_entries, entries_for, listing, refused_list, counted, contents}

-- ---- the tables' words

-- the entry of a word of 4 bytes says which it is
back : (code at : ℕ) → (code ≡ 7) ⊎ (code ≡ 8) → at < 16777216 → (l : List ℕ)
    → words_from (entry code at ∷ l) ≡ word at 4 ∷ words_from l
back code at seven small l =
    let e = entry code at in
    let low : 7 ≤ code = elim seven [ inl h ↦ omega arith | inr h ↦ omega arith ] in
    let c : code_of e ≡ code = omega arith in
    let p : place_of e ≡ at = omega arith in
    let w : width_of code ≡ 4 = four_wide code (λ h. elim h [ inl z ↦ omega arith | inr z ↦ omega arith ]) in
    from_more e l (omega arith) ∙ rw (c, p, w)

module _ (xs : List ℕ) (r : Reading) (g : Guaranteed xs r) where
  coded_back : (i k : ℕ) → i + k ≤ r.n
      → words_from (coded 8 (patch_from xs (entries_at r) i k)) ≡ patch_from xs (entries_at r) i k
  unfolding patch_from coded
  coded_back i zero h = unfold words_from in refl
  coded_back i (suc k) h =
      let at = word_at xs r i in
      back 8 at (inr refl) (omega (arith, g.word_within i (omega arith), g.length_most)) _
      ∙ ap (λ (l : List Item). word at 4 ∷ l) (coded_back (suc i) k (omega arith))

  table_back : words_from (table_entries xs r) ≡ fixed xs r
  table_back =
      back 7 (r.H + 28) (inl refl) (omega (arith, g)) _
      ∙ ap (λ (l : List Item). word (r.H + 28) 4 ∷ l) (coded_back 0 r.n (omega arith))

  -- the words of the list are the words of a move, in their order
  pub words_listed : words_from (entries_for xs r) ≡ words_in (met xs r)
  unfolding entries_for
  words_listed =
      from_join (table_entries xs r) (inventory xs (le 8 xs 32) (file_at r))
      ∙ rw (table_back, inventory_words xs (le 8 xs 32) (file_at r) g.walkable)
      (sym (words_split xs r g))

  -- no word has the code of a module
  coded_other : (l : List Item) → places_of 2 (coded 8 l) ≡ []
  unfolding coded
  coded_other [] = unfold places_of in refl
  coded_other (x ∷ l) = places_same (entry 8 x.at) (coded 8 l) 2 (λ z. omega arith) ∙ coded_other l

  coded_length : (l : List Item) → length (coded 8 l) ≡ length l
  unfolding coded
  coded_length [] = refl
  coded_length (x ∷ l) = rw (coded_length l)

  pub table_length : length (table_entries xs r) ≡ r.n + 1
  table_length = omega (arith, coded_length (patch_items xs (entries_at r) r.n), patches_count xs (entries_at r) 0 r.n)

  table_counts : counts_of (table_entries xs r) ≡ record { modules = 0; words = r.n + 1; entries = r.n + 1 }
  table_counts =
      let l = patch_items xs (entries_at r) r.n in
      same_counts (counts_of (table_entries xs r)) (record { modules = 0; words = r.n + 1; entries = r.n + 1 })
      (ap length (places_same (entry 7 (r.H + 28)) (coded 8 l) 2 (λ z. omega arith) ∙ coded_other l))
      (ap length table_back ∙ omega (arith, patches_count xs (entries_at r) 0 r.n)) table_length

  -- what is counted: the modules' counts, and a word more for each that the tables name
  pub counts_all : (n : Counts) → n ≡ counts_of (inventory xs (le 8 xs 32) (file_at r))
      → record { modules = n.modules; words = n.words + (r.n + 1); entries = n.entries + (r.n + 1) } ≡ counts_of (entries_for xs r)
  unfolding entries_for
  counts_all n e =
      let m = inventory xs (le 8 xs 32) (file_at r) in
      let t : Counts = record { modules = 0; words = r.n + 1; entries = r.n + 1 } in
      sym
      (counts_join (table_entries xs r) m
      ∙ ap (λ (q : Counts). plus q (counts_of m)) table_counts
      ∙ ap (λ (q : Counts). plus t q) (sym e)
      ∙ same_counts (plus t n) (record { modules = n.modules; words = n.words + (r.n + 1); entries = n.entries + (r.n + 1) })
      (omega arith) (omega arith) (omega arith))

  -- they are numbers of 64 bits, even four times
  pub counts_small : Bytes xs → (n : Counts) → n ≡ counts_of (inventory xs (le 8 xs 32) (file_at r))
      → (n.words ≤ 576460752303423488) × (n.entries ≤ 576460752303423488)
  counts_small bytes n e =
      let few = inventory_few xs (le 8 xs 32) (file_at r) bytes g.walkable in
      rw e (omega (arith, few, inventory_sum xs (le 8 xs 32) (file_at r) g.walkable), few)

  pub entries_small : Bytes xs → length (entries_for xs r) ≤ 576460752303424513
  unfolding entries_for
  entries_small bytes =
      let m = inventory xs (le 8 xs 32) (file_at r) in
      omega (
        arith,
        length-append (table_entries xs r) m,
        table_length,
        inventory_few xs (le 8 xs 32) (file_at r) bytes g.walkable,
        g.n_most,
      )

-- ---- the answer

module _ (xs : List ℕ) (room : ℕ) where
  -- no rule of its own, but the room decides the number
  abbrev own : Rules Listed
  own = answer (counted (cond (test (4 * length (listing xs) ≤? room)) 0 20) (counts_of (listing xs)))

  pub list_unread : (Read2 xs → ⊥) → contents xs room ≡ refused_list (reading2 xs).number (reading2 xs).index
  unfolding contents
  list_unread h = after_refused refused_list (reading2 xs) own h

  module _ (ok : Read2 xs) where
    judged : contents xs room ≡ counted (cond (test (4 * length (listing xs) ≤? room)) 0 20) (counts_of (listing xs))
    unfolding contents run
    judged = after_accepted refused_list (reading2 xs) own ok

    module _ (n : Counts) (totals : n ≡ counts_of (listing xs)) where
      pub list_full : room < 4 * n.entries → contents xs room ≡ counted 20 n
      list_full h =
          let e = ap (λ (n : Counts). n.entries) totals in
          judged ∙ rw (fails (4 * length (listing xs) ≤? room) (λ z. omega arith)) (ap (λ (q : Counts). counted 20 q) (sym totals))

      pub list_fits_lem : 4 * n.entries ≤ room → contents xs room ≡ counted 0 n
      list_fits_lem h =
          let e = ap (λ (n : Counts). n.entries) totals in
          judged ∙ rw (passes (4 * length (listing xs) ≤? room) (omega arith)) (ap (λ (q : Counts). counted 0 q) (sym totals))

  -- what an accepted call has passed
  pub list_accepted : (contents xs room).number ≡ 0 → Read2 xs × (4 * length (listing xs) ≤ room)
  list_accepted e =
      elim (ℕ_discrete (reading2 xs).number 0) [
        | no h ↦ absurd (h (ap (λ (a : Listed). a.number) (sym (list_unread h)) ∙ e))
        | yes ok ↦ (
          ok,
          by_test (λ (k : ℕ). k ≡ 0 → 4 * length (listing xs) ≤ room) (4 * length (listing xs) ≤? room) 0 20 (λ h z. h)
              (λ h z. absurd (omega arith)) (ap (λ (a : Listed). a.number) (sym (judged ok)) ∙ e),
        )
      ]

-- the words of the list of an image that reads are the words of its move, and as many are counted
pub listed_words : (xs : List ℕ) → Read2 xs → words_from (listing xs) ≡ words_in (met xs (reading2 xs))
unfolding listing
listed_words xs ok = words_listed xs (reading2 xs) (guaranteed xs ok)

pub words_counted : (xs : List ℕ) (room : ℕ) → Read2 xs → (contents xs room).words ≡ (words_of xs (reading2 xs)).count
words_counted xs room ok = ap (λ (a : Listed). a.words) (judged xs room ok) ∙ ap length (listed_words xs ok)

-- no count is near 2^64
pub counts_few : (xs : List ℕ) → Bytes xs → Read2 xs
    → let n = counts_of (listing xs) in
    (n.modules ≤ 576460752303424513) × (n.words ≤ 576460752303424513) × (n.entries ≤ 576460752303424513)
unfolding listing
counts_few xs bytes ok =
    let few = entries_small xs (reading2 xs) (guaranteed xs ok) bytes in
    (omega (arith, few, places_less 2 (listing xs)), omega (arith, few, from_less (listing xs)), few)
