-- A block after those before it, and that the blocks' bytes are all that counts.
-- Assumes nothing.
use Rattle.std.specs.Prelude.{ℕ, zero, suc, ◌+◌, ◌*◌, ◌<◌, List, ◌≡◌, refl, get_or}
use Rattle.std.proofs.Common.{sym, ap, ◌∙◌, arith, add-one}
use Rattle.digest_rounds.specs.declared.Eight.{Eight}
use Rattle.digest_rounds.specs.Rounds.{K, rounds, plus}
use Rattle.digest_schedule.specs.Schedule.{scheduled}
use Rattle.digest_schedule.specs.ScheduleLaws.{same_schedule}
use Rattle.digest_blocks.specs.Blocks.{compressed, chained}

pub chained_none : (v : Eight) (xs : List ℕ) → chained v xs 0 ≡ v
unfolding chained
chained_none v xs = refl

pub chained_more : (v : Eight) (xs : List ℕ) (i : ℕ) → chained v xs (i + 1) ≡ compressed (chained v xs i) xs (64 * i)
unfolding chained
chained_more v xs i = rw add-one

pub chained_turn : (v : Eight) (xs : List ℕ) (i : ℕ) (w r : Eight) → w ≡ chained v xs i → r ≡ compressed w xs (64 * i)
    → r ≡ chained v xs (i + 1)
chained_turn v xs i w r e f = f ∙ ap (λ (q : Eight). compressed q xs (64 * i)) e ∙ sym (chained_more v xs i)

-- rounds and sum, as the code has them
pub compressed_by : (v : Eight) (xs : List ℕ) (at : ℕ) (ks ws : List ℕ) (x r : Eight) → ks ≡ K → ws ≡ scheduled xs at
    → x ≡ rounds ks v ws 64 → r ≡ plus x v → r ≡ compressed v xs at
unfolding compressed
compressed_by v xs at ks ws x r k w e f = f ∙ rw (e, k, w)

pub same_compressed : (v : Eight) (xs ys : List ℕ) (at bt : ℕ) → ((i : ℕ) → i < 64 → get_or xs (at + i) 0 ≡ get_or ys (bt + i) 0)
    → compressed v xs at ≡ compressed v ys bt
unfolding compressed
same_compressed v xs ys at bt same = rw (same_schedule xs ys at bt same)

pub same_chained : (v : Eight) (xs ys : List ℕ) (k : ℕ) → ((i : ℕ) → i < 64 * k → get_or xs i 0 ≡ get_or ys i 0)
    → chained v xs k ≡ chained v ys k
unfolding chained
same_chained v xs ys zero same = refl
same_chained v xs ys (suc k) same =
    same_compressed (chained v xs k) xs ys (64 * k) (64 * k) (λ i h. same (64 * k + i) (omega arith))
    ∙ ap (λ (q : Eight). compressed q ys (64 * k)) (same_chained v xs ys k (λ i h. same i (omega arith)))
