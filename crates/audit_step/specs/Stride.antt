-- What one step of the walk needs and passes: where the next moved word is, and where the two files differ.
-- Assumes nothing.
use Rattle.std.specs.Prelude.{◌≡◌, ℕ, suc, ◌+◌, ◌-◌, ◌<◌, ◌≤◌, cond, List, Option, Some, None, length, ◌≢◌, nat_lt, slice_index}
use Rattle.words.specs.Put.{digit}
use Rattle.move_modules.specs.Relocate.{shift}
use Rattle.answers.specs.declared.Reading.{Reading}
use Rattle.reading_rules.specs.Words.{words_of}
use Rattle.moves.specs.Moves.{moved}
use Rattle.audit_step.specs.declared.Step.{Step}
use Rattle.audit_step.specs.declared.Step.TheVariants.{Passes, Differs}

-- ys has the bytes of w, written at p, from `from` on up to k
abbrev pub Written : List ℕ → ℕ → ℕ → ℕ → ℕ → Type 0
Written ys p w from k = (i : ℕ) → from ≤ i → i < k → slice_index ys i ≡ digit w (i - p)

-- the first position from `from` on at which ys isn't the m bytes of w, written at p
abbrev pub InWord : List ℕ → ℕ → ℕ → ℕ → ℕ → Option ℕ → Type 0
InWord ys p m w from (Some k) = (from ≤ k) × (k < p + m) × Written ys p w from k × (slice_index ys k ≢ digit w (k - p))
InWord ys p m w from None = Written ys p w from (p + m)

-- w is the place of a moved word of m bytes that ends past `at`, or the length, and no moved word that ends past `at` starts before it
pub record Reach (xs : List ℕ) (r : Reading) (at w m : ℕ) : Type 0 where
  pub most : w ≤ length xs
  pub past : w < length xs → at < w + m
  pub word : w < length xs → (j : ℕ) × (j < (words_of xs r).count) × ((words_of xs r).at j ≡ w) × ((words_of xs r).width j ≡ m)
  pub least : (j : ℕ) → j < (words_of xs r).count → at < (words_of xs r).at j + (words_of xs r).width j → w ≤ (words_of xs r).at j

-- the same of the modules' words alone, which stand after the tables' in the list
pub record Coming (xs : List ℕ) (r : Reading) (at w m : ℕ) : Type 0 where
  pub most : w ≤ length xs
  pub past : w < length xs → at < w + m
  pub word : w < length xs → (j : ℕ) × (j < (words_of xs r).count) × ((words_of xs r).at j ≡ w) × ((words_of xs r).width j ≡ m)
  pub least : (j : ℕ) → suc r.n ≤ j → j < (words_of xs r).count → at < (words_of xs r).at j + (words_of xs r).width j → w ≤ (words_of xs r).at j

-- up to where the modules' next word is the one of m bytes at w: its end, or the image's
abbrev pub ending : ℕ → ℕ → ℕ → ℕ
ending long w m = cond (nat_lt w long) (w + m) long

-- the vendor image with `four` added to each word of 4 bytes and `eight` to each of 8
abbrev pub by : List ℕ → Reading → ℕ → ℕ → List ℕ
by xs r four eight = moved xs (words_of xs r) (shift four eight)

-- every byte from `at` on up to `to` is the reference's
pub record Alike (ref ys : List ℕ) (at to : ℕ) : Type 0 where
  pub onward : at ≤ to
  pub most : to ≤ length ys
  pub clear : (k : ℕ) → at ≤ k → k < to → slice_index ys k ≡ slice_index ref k

-- a step from `at` on: every byte passed is the reference's, and one at which it ends isn't
abbrev pub Stepped : List ℕ → List ℕ → ℕ → Step → Type 0
Stepped ref ys at (Passes k) = Alike ref ys at k × (at < k)
Stepped ref ys at (Differs k) = Alike ref ys at k × (k < length ys) × (slice_index ys k ≢ slice_index ref k)
