-- The words that the tables name.
-- Assumes nothing.
use Rattle.std.specs.Prelude.{◌≡◌, ℕ, zero, suc, ◌+◌, ◌-◌, ◌*◌, ◌<◌, ◌≤◌, ◌⊎◌, List, length, get_or, refl}
use Rattle.std.proofs.Common.{ap, inl, inr, arith}
use Rattle.words.specs.Le.{Alike}
use Rattle.table.specs.PassesLaws.{place_cong}
use Rattle.table.specs.declared.Place.{Place}
use Rattle.answers.specs.declared.Reading.{Reading}
use Rattle.reading_rules.specs.Reading.{entries_at, word_at}
use Rattle.reading_rules.specs.Guarantee.{Guaranteed}
use Rattle.moves.specs.Moves.{moved_to, Beside, Spread}
use Rattle.moves.specs.MovesLaws.{length_moved, moved_beside}
use Rattle.move_image.specs.Fixed.{fixed_at, fixed_of}

module _ (xs : List ℕ) (r : Reading) (g : Guaranteed xs r) where
  -- they lie in the image, apart from each other
  pub fixed_spread : Spread xs (fixed_of xs r)
  fixed_spread = record { within = within; apart = apart }
    where
      within : (i : ℕ) → i < suc r.n → fixed_at xs r i + 4 ≤ length xs
      within zero h = omega (arith, g)
      within (suc i) h = g.word_within i (omega arith)

      apart : (i j : ℕ) → i < j → j < suc r.n → (fixed_at xs r i + 4 ≤ fixed_at xs r j) ⊎ (fixed_at xs r j + 4 ≤ fixed_at xs r i)
      apart i zero l h = absurd (omega arith)
      apart zero (suc j) l h = inl (omega (arith, g, (g.word_outside j (omega arith)).0))
      apart (suc i) (suc j) l h = elim (g.word_apart j i (omega arith) (omega arith)) [ inl a ↦ inr a | inr a ↦ inl a ]

  -- a byte below E or in the region, other than the base word's, lies in none
  fixed_beside : (i k : ℕ) → i ≤ suc r.n → (k < r.H + 28) ⊎ (r.H + 32 ≤ k) → (k < r.E) ⊎ ((r.c ≤ k) × (k < r.c + r.z))
      → Beside (fixed_of xs r) i k
  fixed_beside i k hi base part zero h = elim base [ inl a ↦ inl a | inr a ↦ inr (omega arith) ]
  fixed_beside i k hi base part (suc j) h = go part (g.word_outside j (omega arith)).1
    where
      above : r.E ≤ word_at xs r j
      above = (g.word_outside j (omega arith)).0

      go : (k < r.E) ⊎ ((r.c ≤ k) × (k < r.c + r.z)) → (word_at xs r j + 4 ≤ r.c) ⊎ (r.c + r.z ≤ word_at xs r j)
          → (k < word_at xs r j) ⊎ (word_at xs r j + 4 ≤ k)
      go (inl a) out = inl (omega (arith, above))
      go (inr a) (inl b) = inr (omega arith)
      go (inr a) (inr b) = inl (omega arith)

  -- the table is as it was, so each word stands where it stood
  pub fixed_kept : (d : ℕ → ℕ) (i j : ℕ) → i ≤ suc r.n → j < suc r.n → fixed_at (moved_to xs (fixed_of xs r) d i) r j ≡ fixed_at xs r j
  fixed_kept d i zero hi h = refl
  fixed_kept d i (suc j) hi h =
      let ys = moved_to xs (fixed_of xs r) d i in
      let t = entries_at r in
      ap (λ (w : Place). w.at)
      (place_cong ys xs t r.n (length_moved xs (fixed_of xs r) d i)
      (record {
        same = λ k l. moved_beside xs (fixed_of xs r) d i (t + k)
            (fixed_beside i (t + k) hi (inr (omega (arith, g))) (inl (omega (arith, g))));
      })
      j (omega arith))
