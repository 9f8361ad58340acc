-- The schedule place by place, and that it is one of the block's bytes alone.
-- Assumes nothing.
use Rattle.std.specs.Prelude.{ℕ, zero, suc, ◌+◌, ◌-◌, ◌*◌, ◌≤◌, ◌<◌, List, ◌≡◌, refl, get_or, set, replicate}
use Rattle.std.proofs.Common.{sym, subst, arith, add_assoc, add-one}
use Rattle.digest_schedule.specs.Schedule.{word, loaded, next, grown, expanded, scheduled}

pub loaded_none : (ws xs : List ℕ) (at : ℕ) → loaded ws xs at 0 ≡ ws
unfolding loaded
loaded_none ws xs at = refl

loaded_more : (ws xs : List ℕ) (at t : ℕ) → loaded ws xs at (t + 1) ≡ set (loaded ws xs at t) t (word xs (at + 4 * t))
unfolding loaded
loaded_more ws xs at t = rw add-one

pub loaded_turn : (ws xs : List ℕ) (at t : ℕ) (w : List ℕ) (x : ℕ) → w ≡ loaded ws xs at t → x ≡ word xs (at + 4 * t)
    → set w t x ≡ loaded ws xs at (t + 1)
loaded_turn ws xs at t w x e f = rw (f, e) (sym (loaded_more ws xs at t))

pub expanded_none : (ws : List ℕ) → expanded ws 0 ≡ ws
unfolding expanded
expanded_none ws = refl

expanded_more : (ws : List ℕ) (i : ℕ) → expanded ws (i + 1) ≡ grown (expanded ws i) (i + 16)
unfolding expanded
expanded_more ws i = rw add-one

expanded_turn : (ws : List ℕ) (i : ℕ) (w : List ℕ) (x : ℕ) → w ≡ expanded ws i → x ≡ next w (i + 16)
    → set w (i + 16) x ≡ expanded ws (i + 1)
expanded_turn ws i w x e f = rw (f, e) (sym (expanded_more ws i))

-- the word of place t is written, after those of 16 to t - 1
pub expanded_at : (ws : List ℕ) (t : ℕ) (w : List ℕ) (x : ℕ) → 16 ≤ t → w ≡ expanded ws (t - 16) → x ≡ next w t
    → set w t x ≡ expanded ws (t + 1 - 16)
expanded_at ws t w x h e f =
    let i = t - 16 in
    let place : t ≡ i + 16 = omega arith in
    let turn : t + 1 - 16 ≡ i + 1 = omega arith in
    let write = expanded_turn ws i w x e (subst (λ (n : ℕ). x ≡ next w n) place f) in
    rw turn (subst (λ (n : ℕ). set w n x ≡ expanded ws (i + 1)) (sym place) write)

-- two blocks with the same bytes
module _ (xs ys : List ℕ) (at bt : ℕ) (same : (i : ℕ) → i < 64 → get_or xs (at + i) 0 ≡ get_or ys (bt + i) 0) where
  same_byte : (i j : ℕ) → i + j < 64 → get_or xs (at + i + j) 0 ≡ get_or ys (bt + i + j) 0
  same_byte i j h = rw (add_assoc at i j, add_assoc bt i j) (same (i + j) h)

  same_word : (i : ℕ) → i + 4 ≤ 64 → word xs (at + i) ≡ word ys (bt + i)
  unfolding word
  same_word i h =
      rw (same i (omega arith), same_byte i 1 (omega arith), same_byte i 2 (omega arith), same_byte i 3 (omega arith))

  same_loaded : (ws : List ℕ) (t : ℕ) → t ≤ 16 → loaded ws xs at t ≡ loaded ws ys bt t
  unfolding loaded
  same_loaded ws zero h = refl
  same_loaded ws (suc t) h = rw (same_loaded ws t (omega arith), same_word (4 * t) (omega arith))

  pub same_schedule : scheduled xs at ≡ scheduled ys bt
  unfolding scheduled
  same_schedule = rw (same_loaded (replicate 64 0) 16 (omega arith))
