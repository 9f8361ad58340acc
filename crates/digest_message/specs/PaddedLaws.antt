-- The padded message byte by byte.
-- Assumes nothing.
use Rattle.std.specs.Prelude.{ℕ, zero, suc, ◌+◌, ◌-◌, ◌*◌, ◌/◌, ◌%◌, ◌^◌, ◌≤◌, ◌<◌, List, ◌∷◌, ◌++◌, ◌≡◌, refl, get_or, set, replicate, length}
use Rattle.std.proofs.Common.{ap, ◌∙◌, arith, length-append, get_or-set_same, get_or-set_other, get_or-append-add}
use Rattle.std.proofs.Math.Decide.{dec_le}
use Rattle.std.proofs.Math.ListN.{length-replicate, get_or-append}
use Rattle.std.proofs.lemmas.List.{get_or-replicate}
use Rattle.std.proofs.Math.Seq.{get_or-append_seam}
use Rattle.digest_message.specs.Message.{big, zeros, padded}

pub apart : {n p : ℕ} → n ≤ p → (p ≡ n → ⊥) → n < p
apart {n} {p} h d =
    elim (dec_le p n) [
      | yes s ↦ absurd (d (omega arith))
      | no b ↦ omega arith
    ]

pub length_big : (k w : ℕ) → length (big k w) ≡ k
unfolding big
length_big zero w = refl
length_big (suc k) w = ap suc (length_big k w)

getD_big : (k i w : ℕ) → i < k → get_or (big k w) i 0 ≡ w / 2 ^ (8 * (k - 1 - i)) % 256
unfolding big
getD_big zero i w h = absurd (omega arith)
getD_big (suc k) zero w h = let e : suc k - 1 - 0 ≡ k = omega arith in rw e
getD_big (suc k) (suc i) w h = let e : suc k - 1 - suc i ≡ k - 1 - i = omega arith in rw e (getD_big k i w (omega arith))

-- how many blocks a message of n bytes has
abbrev pub blocks : ℕ → ℕ
blocks n = (n + 8) / 64 + 1

module _ (xs : List ℕ) where
  pub length_padded : length (padded xs) ≡ 64 * blocks (length xs)
  unfolding padded
  length_padded = simp (length-append, length-replicate, length_big) (omega arith)

  pub padded_in : (p : ℕ) → p < length xs → get_or (padded xs) p 0 ≡ get_or xs p 0
  unfolding padded
  padded_in p h = get_or-append xs (128 ∷ (replicate (zeros (length xs)) 0 ++ big 8 (8 * length xs))) 0 p h

  pub padded_one : (p : ℕ) → p ≡ length xs → get_or (padded xs) p 0 ≡ 128
  unfolding padded
  padded_one p e = rw e (get_or-append_seam xs 128 (replicate (zeros (length xs)) 0 ++ big 8 (8 * length xs)) 0)

  -- byte q after the byte 128
  padded_after : (q : ℕ) → get_or (padded xs) (length xs + suc q) 0 ≡ get_or (replicate (zeros (length xs)) 0 ++ big 8 (8 * length xs)) q 0
  unfolding padded
  padded_after q = get_or-append-add xs (128 ∷ (replicate (zeros (length xs)) 0 ++ big 8 (8 * length xs))) (suc q) 0

  pub padded_zero : (p : ℕ) → length xs < p → p < blocks (length xs) * 64 - 8 → get_or (padded xs) p 0 ≡ 0
  padded_zero p h l =
      let q = p - length xs - 1 in
      let z = zeros (length xs) in
      let e : p ≡ length xs + suc q = omega arith in
      let in-zeros : q < z = omega arith in
      ap (λ (n : ℕ). get_or (padded xs) n 0) e
      ∙ padded_after q
      ∙ get_or-append (replicate z 0) (big 8 (8 * length xs)) 0 q (omega (arith, length-replicate {A = ℕ} z 0))
      ∙ get_or-replicate z q 0 0 in-zeros

  pub padded_length : (p : ℕ) → blocks (length xs) * 64 - 8 ≤ p → p < blocks (length xs) * 64
      → get_or (padded xs) p 0 ≡ 8 * length xs / 2 ^ (8 * (blocks (length xs) * 64 - 1 - p)) % 256
  padded_length p h l =
      let z = zeros (length xs) in
      let i = p - (blocks (length xs) * 64 - 8) in
      let e : p ≡ length xs + suc (length (replicate {A = ℕ} z 0) + i) = omega (arith, length-replicate {A = ℕ} z 0) in
      let f : 8 - 1 - i ≡ blocks (length xs) * 64 - 1 - p = omega arith in
      ap (λ (n : ℕ). get_or (padded xs) n 0) e
      ∙ padded_after (length (replicate {A = ℕ} z 0) + i)
      ∙ get_or-append-add (replicate z 0) (big 8 (8 * length xs)) i 0
      ∙ getD_big 8 i (8 * length xs) (omega arith)
      ∙ ap (λ (n : ℕ). 8 * length xs / 2 ^ (8 * n) % 256) f

-- t holds the block of the padded message at `at`, its first n bytes
abbrev pub Holding : List ℕ → ℕ → List ℕ → ℕ → Type 0
Holding xs at t n = (i : ℕ) → i < n → get_or t i 0 ≡ get_or (padded xs) (at + i) 0

pub holding_more : (xs : List ℕ) (at : ℕ) (t : List ℕ) (n v : ℕ) → n < length t → Holding xs at t n → v ≡ get_or (padded xs) (at + n) 0
    → Holding xs at (set t n v) (n + 1)
holding_more xs at t n v h holds e i l =
    elim (dec_le n i) [
      | yes s ↦ let same : i ≡ n = omega arith in rw same (get_or-set_same t n v 0 h ∙ e)
      | no b ↦ get_or-set_other t n i v 0 (λ same. omega arith) ∙ holds i (omega arith)
    ]
