-- The reference byte by byte, as the walk meets it.
-- Assumes nothing.
use Rattle.std.specs.Prelude.{◌≡◌, refl, ℕ, zero, suc, ◌+◌, ◌-◌, ◌/◌, ◌%◌, ◌^◌, ◌<◌, ◌≤◌, ◌⊎◌, List, length, slice_index}
use Rattle.std.specs.Int.{to_le_bytes, w64}
use Rattle.std.proofs.Common.{sym, ◌∙◌, inl, inr, arith}
use Rattle.std.proofs.Math.Decide.{dec_lt}
use Rattle.std.proofs.Math.Nat.{mod-mod}
use Rattle.words.specs.Le.{le, Bytes}
use Rattle.words.specs.Put.{digit, put}
use Rattle.words.specs.PutLaws.{le_put, put_in, bytes_put, le_one}
use Rattle.move_modules.specs.Relocate.{shift}
use Rattle.answers.specs.declared.Reading.{Reading}
use Rattle.reading_rules.specs.Guarantee.{Guaranteed}
use Rattle.reading_rules.specs.Words.{words_of}
use Rattle.reading_rules.specs.WordsLaws.{spread, widths}
use Rattle.moves.specs.Moves.{moved_to, Beside}
use Rattle.moves.specs.MovesLaws.{bytes_moved, moved_beside, moved_word}
use Rattle.audit_step.specs.Stride.{Reach, by}

-- a word lies in the image
pub word_fits : (xs : List ℕ) (r : Reading) → Guaranteed xs r → (p m j : ℕ) → j < (words_of xs r).count → (words_of xs r).at j ≡ p
    → (words_of xs r).width j ≡ m → p + m ≤ length xs
word_fits xs r g p m j hj at width = rw (at, width) at ((spread xs r g).within j hj)

-- a walk that stands in the image and not before its next word stands in it: the word of m bytes at w lies in the image and has 4 bytes or 8
pub record InNext (xs : List ℕ) (r : Reading) (at w m : ℕ) : Type 0 where
  pub past : at < w + m
  pub fits : w + m ≤ length xs
  pub wide : (m ≡ 4) ⊎ (m ≡ 8)
  pub word : (j : ℕ) × (j < (words_of xs r).count) × ((words_of xs r).at j ≡ w) × ((words_of xs r).width j ≡ m)

pub in_next : (xs : List ℕ) (r : Reading) → Guaranteed xs r → (at w m : ℕ) → Reach xs r at w m → w ≤ at → at < length xs
    → InNext xs r at w m
in_next xs r g at w m reach low high =
    let (j, hj, is, width) = reach.word (omega arith) in
    record {
      past = reach.past (omega arith);
      fits = word_fits xs r g w m j hj is width;
      wide = rw width at (widths xs r g j hj);
      word = (j, hj, is, width);
    }

module _ (xs : List ℕ) (r : Reading) (g : Guaranteed xs r) (four eight : ℕ) where
  -- before the next word the reference is the vendor's own bytes
  pub plain : (at w m k : ℕ) → Reach xs r at w m → at ≤ k → k < w → slice_index (by xs r four eight) k ≡ slice_index xs k
  plain at w m k reach h l = moved_beside xs (words_of xs r) (shift four eight) (words_of xs r).count k beside
    where
      beside : Beside (words_of xs r) (words_of xs r).count k
      beside j hj =
          elim (dec_lt at ((words_of xs r).at j + (words_of xs r).width j)) [
            | yes a ↦ inl (omega (arith, reach.least j hj a))
            | no a ↦ inr (omega arith)
          ]

  -- in a word it is the moved value's
  pub in_word : Bytes xs → (p m k j : ℕ) → j < (words_of xs r).count → (words_of xs r).at j ≡ p → (words_of xs r).width j ≡ m → p ≤ k → k < p + m
      → slice_index (by xs r four eight) k ≡ digit ((le m xs p + shift four eight m) % 256 ^ m) (k - p)
  in_word bytes p m k j hj at width h l =
      let ws = words_of xs r in
      let n = ws.count in
      let d = shift four eight in
      let v = (le m xs p + d m) % 256 ^ m in
      let ref = moved_to xs ws d n in
      let fits = word_fits xs r g p m j hj at width in
      let number : le m ref p ≡ v = rw (at, width) at (moved_word xs ws (spread xs r g) d n j (omega arith) hj) in
      let there : le m (put m xs p v) p ≡ v = le_put m xs p v fits ∙ mod-mod (le m xs p + d m) (256 ^ m) in
      let same = le_one m ref (put m xs p v) p (bytes_moved xs ws d n bytes) (bytes_put m xs p v bytes) (number ∙ sym there) in
      let s : p + (k - p) ≡ k = omega arith in
      rw s at (same.same (k - p) (omega arith) ∙ put_in m xs p v (k - p) fits (omega arith))

-- ---- byte i of a number of eight

by_one : (w : ℕ) → w % 256 ≡ w / 1 % 256
by_one w = let e : w / 1 ≡ w = omega arith in rw e

pub byte_digit : (w i : ℕ) → i < 8 → slice_index (to_le_bytes w64 w) i ≡ digit w i
unfolding digit
byte_digit w zero h = by_one w
byte_digit w (suc zero) h = refl
byte_digit w (suc (suc zero)) h = refl
byte_digit w (suc (suc (suc zero))) h = refl
byte_digit w (suc (suc (suc (suc zero)))) h = refl
byte_digit w (suc (suc (suc (suc (suc zero))))) h = refl
byte_digit w (suc (suc (suc (suc (suc (suc zero)))))) h = refl
byte_digit w (suc (suc (suc (suc (suc (suc (suc zero))))))) h = refl
byte_digit w (suc (suc (suc (suc (suc (suc (suc (suc i)))))))) h = absurd (omega arith)
