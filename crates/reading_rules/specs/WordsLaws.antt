-- The words of a move lie in the image, apart from each other and from every byte that a reading looks at.
-- Assumes nothing.
use Prim.Native.Nat.{ℕ, zero, suc, ◌+◌, ◌-◌, ◌*◌, ◌≤◌, ◌<◌}
use Rattle.std.specs.Prelude.{List, [], ◌∷◌, ◌++◌, ◌⊎◌, ◌≡◌, length}
use Rattle.std.proofs.Math.Logic.{inl, inr}
use Rattle.std.proofs.Math.Path.{refl}
use Rattle.std.proofs.Common.{sym, ap, ◌∙◌}
use native.Mathlib.Omega.{arith}
use Rattle.std.proofs.Math.Decide.{ℕ_discrete}
use Rattle.facts.specs.Fact.{Fact, ◌≤?◌, ◌≡?◌, deny, ◌and◌, ◌or◌, Holds}
use Rattle.words.specs.Le.{le}
use Rattle.moves.specs.Moves.{Words, Beside, Spread}
use Rattle.table.specs.Passes.{place}
use Rattle.items.specs.declared.Item.{Item}
use Rattle.items.specs.Items.{word, each, apart, apart_from, inside, words_in, nth, listed, word_kind, kind_number}
use Rattle.items.specs.ItemsLaws.{each_so, each_both, each_join, apart_join}
use Rattle.items.specs.Judged.{off, sound, placed}
use Rattle.items.specs.Shapes.{from}
use Rattle.items.specs.KeptLaws.{apart_first}
use Rattle.items.specs.Listed as listing
use Rattle.items.specs.Listed.{words_more, each_nth}
use Rattle.inside_walk.specs.Whole.{walked}
use Rattle.inside_walk.specs.WholeAbove.{walked_above, walked_inside}
use Rattle.inside_judge.specs.Rules.{patch_from, patch_items}
use Rattle.answers.specs.declared.Reading.{Reading}
use Rattle.reading_rules.specs.Reading.{entries_at, file_at, word_at}
use Rattle.reading_rules.specs.Guarantee.{Guaranteed}
use Rattle.reading_rules.specs.Words.{met, words_of}

module _ (xs : List ℕ) (r : Reading) (g : Guaranteed xs r) where
  -- a check that each patch word passes holds of all
  of_patches : (p : Item → Fact) → ((i : ℕ) → i < r.n → Holds (p (word (word_at xs r i) 4))) → (i k : ℕ) → i + k ≤ r.n
      → Holds (each p (patch_from xs (entries_at r) i k))
  unfolding patch_from each
  of_patches p f i zero h = omega arith
  of_patches p f i (suc k) h = (f i (omega arith), of_patches p f (suc i) k (omega arith))

  abbrev walk : List Item
  walk = walked xs (le 8 xs 32) (file_at r)

  -- all that the walk meets stands after the tables
  pub walked_starts : Holds (each (from r.E) walk)
  walked_starts = walked_above xs (le 8 xs 32) (file_at r) r.E g.tables_within (omega (arith, g.walkable.section, g.walkable.low))

  -- each word lies in the image
  met_inside : Holds (each (inside (length xs)) (met xs r))
  unfolding met each
  met_inside = (
    inr (omega (arith, g), inl refl),
    each_join (inside (length xs)) (patch_items xs (entries_at r) r.n) walk
        (of_patches (inside (length xs)) (λ i h. inr (g.word_within i h, inl refl)) 0 r.n (omega arith))
        (walked_inside xs (le 8 xs 32) (file_at r) g.walkable.within g.walkable.ends),
  )

  -- the patch words are apart from what stands before them
  patches_apart : (i k : ℕ) (before : List Item) → i + k ≤ r.n
      → ((j : ℕ) → i ≤ j → j < r.n → Holds (each (apart (word (word_at xs r j) 4)) before))
      → Holds (apart_from before (patch_from xs (entries_at r) i k))
  unfolding patch_from apart_from each
  patches_apart i zero before h f = omega arith
  patches_apart i (suc k) before h f = (
    f i (omega arith) (omega arith),
    patches_apart (suc i) k (before ++ (word (word_at xs r i) 4 ∷ [])) (omega arith)
        (λ j l m. each_join (apart (word (word_at xs r j) 4)) before (word (word_at xs r i) 4 ∷ []) (f j (omega arith) m)
        (turned j l m, omega arith)),
  )
    where
      turned : (j : ℕ) → suc i ≤ j → j < r.n → Holds (apart (word (word_at xs r j) 4) (word (word_at xs r i) 4))
      turned j l m = inr (g.word_apart j i (omega arith) m)

  -- no two words share a byte, nor does a word with what is looked at
  pub met_apart : Holds (apart_from [] (met xs r))
  unfolding met apart_from each
  met_apart = (
    omega arith,
    apart_join (word (r.H + 28) 4 ∷ []) (patch_items xs (entries_at r) r.n) walk
        (patches_apart 0 r.n (word (r.H + 28) 4 ∷ []) (omega arith)
        (λ j l m. (inr (inr (omega (arith, g, (g.word_outside j m).0))), omega arith)))
        (apart_first (word (r.H + 28) 4) (patch_items xs (entries_at r) r.n) walk
        (each_so (from r.E) (λ y. apart y (word (r.H + 28) 4)) walk far walked_starts) g.words.1),
  )
    where
      far : (y : Item) → Holds (from r.E y) → Holds (apart y (word (r.H + 28) 4))
      far y (inl h) = inr (inl (omega arith))
      far y (inr h) = inr (inr (omega (arith, g)))

  pub spread : Spread xs (words_of xs r)
  spread = listing.spread xs (met xs r) met_inside met_apart

  -- a word has 4 bytes or 8
  pub widths : (j : ℕ) → j < (words_of xs r).count → ((words_of xs r).width j ≡ 4) ⊎ ((words_of xs r).width j ≡ 8)
  widths j h =
      let (a, b) = each_nth (inside (length xs)) (met xs r) j met_inside h in
      elim a [ inl z ↦ absurd (z b) | inr z ↦ z.1 ]

  -- the first is the base word
  first_of : words_in (met xs r)
      ≡ word (r.H + 28) 4 ∷ words_in (patch_items xs (entries_at r) r.n ++ walk)
  unfolding met
  first_of = words_more (word (r.H + 28) 4) _ refl

  pub base_word : ((words_of xs r).at 0 ≡ r.H + 28) × ((words_of xs r).width 0 ≡ 4) × (0 < (words_of xs r).count)
  base_word = rw first_of (refl, refl, omega arith)

  -- each later one stands clear of the tables and of the region
  abbrev clear_of : Item → Fact
  clear_of x = deny (kind_number x.kind ≡? word_kind) or (r.E ≤? x.at and off r.c r.z x)

  clear_words : Holds (each clear_of (patch_items xs (entries_at r) r.n ++ walk))
  clear_words =
      each_join clear_of (patch_items xs (entries_at r) r.n) walk (of_patches clear_of (λ i h. inr (g.word_outside i h)) 0 r.n (omega arith))
      (each_so (placed r.E r.c r.z) clear_of walk (λ x h. h.1) placed_all)
    where
      placed_all : Holds (each (placed r.E r.c r.z) walk)
      placed_all = rw g.entries_end at g.words.0

  pub later_words : (j : ℕ) → suc j < (words_of xs r).count
      → (r.E ≤ (words_of xs r).at (suc j))
      × (((words_of xs r).at (suc j) + (words_of xs r).width (suc j) ≤ r.c) ⊎ (r.c + r.z ≤ (words_of xs r).at (suc j)))
  later_words j h =
      rw first_of
      (let (a, b) = each_nth clear_of (patch_items xs (entries_at r) r.n ++ walk) j clear_words (count j h) in elim a [ inl z ↦ absurd (z b) | inr z ↦ z ])
    where
      count : (j : ℕ) → suc j < (words_of xs r).count
          → j < length (words_in (patch_items xs (entries_at r) r.n ++ walk))
      count j h =
          let l : suc j < suc (length (words_in (patch_items xs (entries_at r) r.n ++ walk))) = rw first_of at h in
          omega arith

  -- no word has a byte in the region
  pub words_outside : (j : ℕ) → j < (words_of xs r).count
      → ((words_of xs r).at j + (words_of xs r).width j ≤ r.c) ⊎ (r.c + r.z ≤ (words_of xs r).at j)
  words_outside zero h = let (at, width, some) = base_word in inl (omega (arith, g))
  words_outside (suc j) h = (later_words j h).1

  -- a byte below E or in the region, other than the base word's, lies in no word
  pub beside : (i k : ℕ) → i ≤ (words_of xs r).count → (k < r.H + 28) ⊎ (r.H + 32 ≤ k) → (k < r.E) ⊎ ((r.c ≤ k) × (k < r.c + r.z))
      → Beside (words_of xs r) i k
  beside i k hi base part zero h =
      let (at, width, some) = base_word in elim base [ inl a ↦ inl (omega arith) | inr a ↦ inr (omega arith) ]
  beside i k hi base part (suc j) h = let (above, out) = later_words j (omega arith) in go above part out
    where
      go : r.E ≤ (words_of xs r).at (suc j) → (k < r.E) ⊎ ((r.c ≤ k) × (k < r.c + r.z))
          → ((words_of xs r).at (suc j) + (words_of xs r).width (suc j) ≤ r.c) ⊎ (r.c + r.z ≤ (words_of xs r).at (suc j))
          → (k < (words_of xs r).at (suc j)) ⊎ ((words_of xs r).at (suc j) + (words_of xs r).width (suc j) ≤ k)
      go above (inl a) out = inl (omega arith)
      go above (inr a) (inl b) = inr (omega arith)
      go above (inr a) (inr b) = inl (omega arith)
