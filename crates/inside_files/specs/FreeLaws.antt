-- Eight bytes of 0xFF are one number.
-- Assumes nothing.
use Rattle.std.specs.Prelude.{ℕ, zero, suc, ◌+◌, ◌-◌, ◌≤◌, ◌<◌, List, ◌≡◌, refl, length, get_or}
use Rattle.std.proofs.Common.{◌∙◌, arith}
use Rattle.std.proofs.Math.Decide.{dec_lt}
use Rattle.words.specs.Le.{le, Bytes}
use Rattle.words.specs.Put.{digit}
use Rattle.words.specs.PutLaws.{number_byte}
use Rattle.inside_files.specs.Free.{Full}

full : (j : ℕ) → j < 8 → digit 18446744073709551615 j ≡ 255
unfolding digit
full zero h = refl
full (suc zero) h = refl
full (suc (suc zero)) h = refl
full (suc (suc (suc zero))) h = refl
full (suc (suc (suc (suc zero)))) h = refl
full (suc (suc (suc (suc (suc zero))))) h = refl
full (suc (suc (suc (suc (suc (suc zero)))))) h = refl
full (suc (suc (suc (suc (suc (suc (suc zero))))))) h = refl
full (suc (suc (suc (suc (suc (suc (suc (suc j)))))))) h = absurd (omega arith)

pub free_eight : (xs : List ℕ) (p : ℕ) → Bytes xs → p + 8 ≤ length xs → le 8 xs p ≡ 18446744073709551615
    → (i : ℕ) → p ≤ i → i < p + 8 → get_or xs i 0 ≡ 255
free_eight xs p bytes fits e i h l =
    number_byte 8 xs p 18446744073709551615 bytes fits e i h l ∙ full (i - p) (omega arith)

-- two stretches, one after the other
pub full_join : (xs : List ℕ) (f n k : ℕ) → Full xs f n → Full xs (f + n) k → Full xs f (n + k)
full_join xs f n k a b i h =
    elim (dec_lt i n) [
      | yes l ↦ a i l
      | no l ↦ let e : f + n + (i - n) ≡ f + i = omega arith in rw e at (b (i - n) (omega arith))
    ]
