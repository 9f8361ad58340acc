-- The header's words summed k a turn and the rest after, for any k; and how one number of 64 bits holds four of them.
-- Assumes nothing.
use Prim.Native.Nat.{ℕ, zero, suc, ◌+◌, ◌*◌, ◌/◌, ◌%◌, ◌≤◌, ◌<◌}
use Rattle.std.specs.Prelude.{List, ◌≡◌}
use Rattle.std.proofs.Common.{sym, ap, ◌∙◌, arith, add-zero, add-suc, mul-suc}
use Rattle.std.proofs.Math.Nat.{mul-zero, div-add-mod, div-div-eq-div-mul}
use Rattle.words.specs.Le.{le, Bytes}
use Rattle.words.specs.LeLaws.{split, le_lt}
use Rattle.volume.specs.Volume.{sum_words}

-- the sum of the k words from word i on
unfoldable pub sum_from : List ℕ → ℕ → ℕ → ℕ
sum_from xs i zero = 0
sum_from xs i (suc k) = sum_from xs i k + le 2 xs (2 * (i + k))

-- the sum of t turns of k words, from the first word on
unfoldable pub sum_turns : List ℕ → ℕ → ℕ → ℕ
sum_turns xs k zero = 0
sum_turns xs k (suc t) = sum_turns xs k t + sum_from xs (k * t) k

-- r holds the sum s in its two halves of 32 bits, each of at most 2 * m words
pub record Halves (m s r : ℕ) : Type 0 where
  pub is : r % 4294967296 + r / 4294967296 ≡ s
  pub low : r % 4294967296 ≤ 131070 * m
  pub high : r / 4294967296 ≤ 131070 * m

module _ (xs : List ℕ) where
  -- the first i words and the k after them
  sum_more : (i k : ℕ) → sum_words xs (i + k) ≡ sum_words xs i + sum_from xs i k
  unfolding sum_words sum_from
  sum_more i zero = rw (add-zero i) (omega arith)
  sum_more i (suc k) = rw (add-suc, sum_more i k) (omega arith)

  turns : (k t : ℕ) → sum_words xs (k * t) ≡ sum_turns xs k t
  unfolding sum_words sum_turns
  turns k zero = rw mul-zero
  turns k (suc t) = rw (mul-suc, sum_more (k * t) k, turns k t)

  -- #103: n words summed k a turn and the rest after are the sum, whatever k is
  pub by_turns : (k n : ℕ) → sum_turns xs k (n / k) + sum_from xs (k * (n / k)) (n % k) ≡ sum_words xs n
  by_turns k n =
      let e : sum_turns xs k (n / k) + sum_from xs (k * (n / k)) (n % k) ≡ sum_words xs (k * (n / k) + n % k) =
      rw (sum_more (k * (n / k)) (n % k), turns k (n / k)) in
      e ∙ ap (sum_words xs) (div-add-mod n k)

-- the lowest word of a number, and what is above it
digits : {w a r : ℕ} → a < 65536 → w ≡ a + 65536 * r → (w % 65536 ≡ a) × (w / 65536 ≡ r)
digits h e = (omega arith, omega arith)

-- two words in each half
pack : {a b c d : ℕ} → a < 65536 → b < 65536 → c < 65536 → d < 65536
    → let r = a + 4294967296 * c + (b + 4294967296 * d) in (r % 4294967296 ≡ a + b) × (r / 4294967296 ≡ c + d)
pack ha hb hc hd = (omega arith, omega arith)

-- the four words of a number of 64 bits, summed two and two
pub four : (xs : List ℕ) (i w : ℕ) → Bytes xs → w ≡ le 8 xs (2 * i)
    → Halves 1 (sum_from xs i 4)
    (w % 65536 + 4294967296 * (w / 4294967296 % 65536) + (w / 65536 % 65536 + 4294967296 * (w / 281474976710656)))
unfolding sum_from
four xs i w small e =
    let p₀ : 2 * (i + 0) ≡ 2 * i = omega arith in
    let p₁ : 2 * (i + 1) ≡ 2 * i + 2 = omega arith in
    let p₂ : 2 * (i + 2) ≡ 2 * i + 2 + 2 = omega arith in
    let p₃ : 2 * (i + 3) ≡ 2 * i + 2 + 2 + 2 = omega arith in
    let a = le_lt 2 xs (2 * i) small in
    let b = le_lt 2 xs (2 * i + 2) small in
    let c = le_lt 2 xs (2 * i + 2 + 2) small in
    let d = le_lt 2 xs (2 * i + 2 + 2 + 2) small in
    let w₀ = digits a (e ∙ split xs (2 * i) 2 6) in
    let w₁ = digits b (w₀.1 ∙ split xs (2 * i + 2) 2 4) in
    let w₂ = digits c (w₁.1 ∙ split xs (2 * i + 2 + 2) 2 2) in
    let n₂ : w / 4294967296 ≡ w / 65536 / 65536 = sym (div-div-eq-div-mul w 65536 65536) in
    let n₃ : w / 281474976710656 ≡ w / 65536 / 65536 / 65536 =
    sym (div-div-eq-div-mul w 65536 4294967296) ∙ sym (div-div-eq-div-mul (w / 65536) 65536 65536) in
    let h = pack a b c d in
    rw (n₂, n₃, w₀.0, w₁.0, w₂.0, w₂.1)
    (record { is = rw (h.0, h.1, p₀, p₁, p₂, p₃) (omega arith); low = omega (arith, h.0); high = omega (arith, h.1) })

-- one turn more: no half runs over, as the longest header has fewer than 8,192 turns
pub halves_add : {t s u a b : ℕ} → t < 8192 → Halves t s a → Halves 1 u b → Halves (suc t) (s + u) (a + b)
halves_add {t} {s} {u} {a} {b} h x y =
    let low : (a + b) % 4294967296 ≡ a % 4294967296 + b % 4294967296 = omega arith in
    let high : (a + b) / 4294967296 ≡ a / 4294967296 + b / 4294967296 = omega arith in
    record { is = rw (low, high) (omega arith); low = rw low (omega arith); high = rw high (omega arith) }

-- and the number fits 64 bits
pub halves_fit : {t s u a b : ℕ} → t < 8192 → Halves t s a → Halves 1 u b → a + b < 18446744073709551616
halves_fit h x y = omega arith
