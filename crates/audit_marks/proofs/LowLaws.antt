-- The lowest set bit of a number, and the first of its bytes that isn't 0.
-- Assumes nothing.
use mathlib.Core.Path.{◌≡◌, refl}
use mathlib.Core.List.{List}
use Prim.Native.Nat.{ℕ, zero, suc, ◌+◌, ◌*◌, ◌/◌, ◌%◌, ◌^◌, ◌≤◌, ◌<◌}
use native.Mathlib.Omega.{arith}
use native.Mathlib.Decide.{ℕ_discrete, dec_lt}
use native.Mathlib.Nat.{add-zero, add-suc, mul_assoc, pow-succ'}
use lib.Count.{count_trailing_zeros, under}
use lib.ListN.{get_or}
use Rattle.words.specs.Le.{le, Bytes}
use Rattle.words.specs.LeLaws.{split}
use Rattle.audit_marks.specs.Marks.{First}

-- one zero more below an even number
even : (k n : ℕ) → count_trailing_zeros (suc k) (2 * n) ≡ suc (count_trailing_zeros k n)
unfolding count_trailing_zeros
even k n =
    let r : 2 * n % 2 ≡ 0 = omega arith in
    let h : 2 * n / 2 ≡ n = omega arith in
    rw (r, h)

twice : (j n : ℕ) → 2 ^ suc j * n ≡ 2 * (2 ^ j * n)
twice j n = rw (pow-succ' 2 j) (mul_assoc 2 (2 ^ j) n)

-- j zeros more below a multiple of 2 ^ j
shifted : (j k n : ℕ) → count_trailing_zeros (k + j) (2 ^ j * n) ≡ count_trailing_zeros k n + j
shifted zero k n =
    let e : 2 ^ 0 * n ≡ n = omega arith in
    rw (add-zero k, e) (omega arith)
shifted (suc j) k n = rw (add-suc k j, twice j n, even (k + j) (2 ^ j * n), shifted j k n) (omega arith)

under_lt : (r t j : ℕ) → (r ≡ 0 → t < j) → under r t < suc j
under_lt zero t j f = omega (arith, f refl)
under_lt (suc r) t j f = omega arith

-- fewer than j where one of the j lowest bits is set
set_below : (k j b y : ℕ) → j ≤ k → 0 < b → b < 2 ^ j → count_trailing_zeros k (b + 2 ^ j * y) < j
unfolding count_trailing_zeros
set_below k zero b y l p h = absurd (omega arith)
set_below zero (suc j) b y l p h = absurd (omega arith)
set_below (suc k) (suc j) b y l p h =
    let n = b + 2 ^ suc j * y in
    let t = twice j y in
    let r : n % 2 ≡ b % 2 = omega arith in
    let e : n / 2 ≡ b / 2 + 2 ^ j * y = omega arith in
    let small : b < 2 * 2 ^ j = rw (pow-succ' 2 j) at h in
    rw (r, e)
    (under_lt (b % 2) (count_trailing_zeros k (b / 2 + 2 ^ j * y)) j
    (λ z. set_below k j (b / 2) y (omega arith) (omega arith) (omega arith)))

one : (xs : List ℕ) (at : ℕ) → le 1 xs at ≡ get_or xs at 0
unfolding le
one xs at = rw (add-zero at) (omega arith)

-- the lowest byte, and the number above it
lowest : (m : ℕ) (xs : List ℕ) (at : ℕ) → le (suc m) xs at ≡ get_or xs at 0 + 256 * le m xs (at + 1)
lowest m xs at =
    let e : suc m ≡ 1 + m = omega arith in
    rw (e, split xs at 1 m, one xs at)

-- the first byte stands where it did one place on, where the one here is 0
next : (xs : List ℕ) (at m q : ℕ) → get_or xs at 0 ≡ 0 → First xs (at + 1) (at + 1 + m) (at + 1 + q) → First xs at (at + suc m) (at + suc q)
next xs at m q z f =
    let s : at + 1 + q ≡ at + suc q = omega arith in
    record {
      onward = omega arith;
      most = omega (arith, f.most);
      clear = λ k h l. elim (ℕ_discrete k at) [ yes e ↦ rw e z | no e ↦ f.clear k (omega arith) (omega arith) ];
      here = λ h e. f.here (omega arith) (rw s e);
    }

-- an eighth of the zeros below the lowest set bit is where the first byte stands that isn't 0
pub first_byte : (m : ℕ) (xs : List ℕ) (at : ℕ) → Bytes xs → (q : ℕ) → q ≡ count_trailing_zeros (8 * m) (le m xs at) / 8
    → First xs at (at + m) (at + q)
unfolding count_trailing_zeros le Bytes
first_byte zero xs at bytes q e =
    record { onward = omega arith; most = omega arith; clear = λ k h l. absurd (omega arith); here = λ h. absurd (omega arith) }
first_byte (suc m) xs at bytes q e =
    let y = le m xs (at + 1) in
    let n : q ≡ count_trailing_zeros (8 * suc m) (get_or xs at 0 + 256 * y) / 8 = rw (lowest m xs at) at e in
    elim (dec_lt 0 (get_or xs at 0)) [
      | yes p ↦
          let low = set_below (8 * suc m) 8 (get_or xs at 0) y (omega arith) p (bytes at) in
          let z : q ≡ 0 = omega arith in
          let s : at + q ≡ at = omega arith in
          record {
            onward = omega arith;
            most = omega arith;
            clear = λ k h l. absurd (omega arith);
            here = λ h g. absurd (omega (arith, rw s at g));
          }
      | no p ↦
          let z : get_or xs at 0 ≡ 0 = omega arith in
          let w : 8 * suc m ≡ 8 * m + 8 = omega arith in
          let o : get_or xs at 0 + 256 * y ≡ 256 * y = omega arith in
          let v : q ≡ count_trailing_zeros (8 * m + 8) (256 * y) / 8 = rw (o, w) at n in
          let t : count_trailing_zeros (8 * m + 8) (256 * y) ≡ count_trailing_zeros (8 * m) y + 8 = shifted 8 (8 * m) y in
          let f = first_byte m xs (at + 1) bytes (count_trailing_zeros (8 * m) y / 8) refl in
          let u : q ≡ suc (count_trailing_zeros (8 * m) y / 8) = omega arith in
          rw u (next xs at m (count_trailing_zeros (8 * m) y / 8) z f)
    ]
