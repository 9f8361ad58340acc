-- A count of m trailing zeros or more says that the lowest m bits are zero, and 0 has as many as there are bits. Assumes nothing.
use mathlib.Core.Path.{◌≡◌, refl, sym, ap, ◌∙◌}
use Prim.Native.Nat.{ℕ, zero, suc, ◌+◌, ◌*◌, ◌/◌, ◌%◌, ◌^◌, ◌≤◌}
use native.Mathlib.Omega.{arith}
use native.Mathlib.Numerals.{add-one}
use lib.Pow.{mod-pow-add}
use lib.Count.{count_trailing_zeros}

-- the lowest m + 1 bits are the lowest and, above it, m others
low : (m n : ℕ) → n % 2 ^ suc m ≡ (n / 2 % 2 ^ m) * 2 + n % 2
low m n = ap (λ (k : ℕ). n % 2 ^ k) (sym (add-one m)) ∙ mod-pow-add n m 1

pub zeros_counted : (m k n : ℕ) → m ≤ k → n % 2 ^ m ≡ 0 → m ≤ count_trailing_zeros k n
unfolding count_trailing_zeros
zeros_counted zero k n h e = omega arith
zeros_counted (suc m) zero n h e = absurd (omega arith)
zeros_counted (suc m) (suc k) n h e =
    let e' : (n / 2 % 2 ^ m) * 2 + n % 2 ≡ 0 = sym (low m n) ∙ e in
    let even : n % 2 ≡ 0 = omega arith in
    let rest : m ≤ count_trailing_zeros k (n / 2) = zeros_counted m k (n / 2) (omega arith) (omega arith) in
    rw even (omega arith)

pub counted_zeros : (m k n : ℕ) → m ≤ count_trailing_zeros k n → n % 2 ^ m ≡ 0
unfolding count_trailing_zeros
counted_zeros zero k n h = omega arith
counted_zeros (suc m) zero n h = absurd (omega arith)
counted_zeros (suc m) (suc k) n h = low m n ∙ go (n % 2) refl (counted_zeros m k (n / 2))
  where
    go : (d : ℕ) → n % 2 ≡ d → (m ≤ count_trailing_zeros k (n / 2) → n / 2 % 2 ^ m ≡ 0) → (n / 2 % 2 ^ m) * 2 + n % 2 ≡ 0
    go zero e rest = let h' : suc m ≤ suc (count_trailing_zeros k (n / 2)) = rw e at h in omega (arith, rest (omega arith))
    go (suc d) e rest = let h' : suc m ≤ 0 = rw e at h in absurd (omega arith)
