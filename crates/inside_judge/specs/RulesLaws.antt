-- The patch words as items.
-- Assumes nothing.
use Prim.Native.Nat.{ℕ, zero, suc, ◌+◌, ◌*◌, ◌≤◌, ◌<◌}
use Rattle.std.specs.Prelude.{List, ◌∷◌, ◌≡◌, length}
use Rattle.std.proofs.Math.Path.{refl}
use Rattle.std.proofs.Common.{ap, ◌∙◌, arith}
use Rattle.words.specs.Le.{Alike}
use Rattle.table.specs.declared.Place.{Place}
use Rattle.table.specs.Passes.{place}
use Rattle.table.specs.PassesLaws.{place_cong}
use Rattle.items.specs.declared.Item.{Item}
use Rattle.items.specs.Items.{word, words_in, nth}
use Rattle.items.specs.Listed.{words_more}
use Rattle.inside_judge.specs.Rules.{patch_from, patch_items}

-- images of one length that agree on the entries have the same patch words
module _ (a b : List ℕ) (t n : ℕ) (long : length a ≡ length b) (table : Alike a b t (4 * n)) where
  patches_from : (i k : ℕ) → i + k ≤ n → patch_from a t i k ≡ patch_from b t i k
  unfolding patch_from
  patches_from i zero h = refl
  patches_from i (suc k) h =
      rw (ap (λ (w : Place). w.at) (place_cong a b t n long table i (omega arith)), patches_from (suc i) k (omega arith))

  pub patches_cong : patch_items a t n ≡ patch_items b t n
  patches_cong = patches_from 0 n (omega arith)

-- there are as many as entries, and the j-th is that of entry j
pub patches_count : (xs : List ℕ) (t i k : ℕ) → length (patch_from xs t i k) ≡ k
unfolding patch_from
patches_count xs t i zero = refl
patches_count xs t i (suc k) = rw (patches_count xs t (suc i) k)

-- each is a word
pub patches_words : (xs : List ℕ) (t i k : ℕ) → words_in (patch_from xs t i k) ≡ patch_from xs t i k
unfolding patch_from
patches_words xs t i zero = unfold words_in in refl
patches_words xs t i (suc k) =
    words_more (word (place xs t i).at 4) (patch_from xs t (suc i) k) refl
    ∙ ap (λ (l : List Item). word (place xs t i).at 4 ∷ l) (patches_words xs t (suc i) k)

pub patches_nth : (xs : List ℕ) (t i k j : ℕ) → j < k → nth (patch_from xs t i k) j ≡ word (place xs t (i + j)).at 4
unfolding patch_from
patches_nth xs t i zero j h = absurd (omega arith)
patches_nth xs t i (suc k) zero h = let e : i + 0 ≡ i = omega arith in rw e
patches_nth xs t i (suc k) (suc j) h = let e : i + suc j ≡ suc i + j = omega arith in rw e (patches_nth xs t (suc i) k j (omega arith))
