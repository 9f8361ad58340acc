-- Signed numbers of 64 bits: a difference fits, and -1 - z of a number z below 0. Assumes nothing.
use Prim.Native.Nat.{ℕ, zero, suc, ◌+◌, ◌-◌, ◌^◌, ◌≤◌, ◌<◌}
use mathlib.Core.Bool.{Bool, true, false, cond}
use native.Mathlib.Omega.{arith}
use Prim.{tt}
use mathlib.Core.Path.{◌≡◌}
use lib.Dec.{T, ltb}
use lib.Signed.{mag, lt_z, non_neg}
use lib.IntN.{ℤ, pos, negsuc, nat_abs, ◌-ℤ◌}
use borrow.Author.Tests.{le-ltb, ltb-true, ltb-false}
use mir.Syntax.{w64}
use mir.Val.{SFits}

pub mag_difference : (a b : ℕ) → a ≤ 2 ^ 32 → b ≤ 2 ^ 32 → mag (pos a -ℤ pos b) < 2 ^ 63
mag_difference a zero ha hb = omega arith
mag_difference a (suc b) ha hb = go (ltb a (suc b))
  where
    go : (t : Bool) → mag (cond t (negsuc (suc b - suc a)) (pos (a - suc b))) < 2 ^ 63
    go true = omega arith
    go false = omega arith

-- of a number z below 0
pub record Below (z : ℤ) : Type 0 where
  pub fits : SFits w64 (negsuc 0 -ℤ z)
  pub positive : T (non_neg (negsuc 0 -ℤ z))
  pub next : nat_abs (negsuc 0 -ℤ z) + 1 ≡ nat_abs z
  pub most : nat_abs z ≤ 2 ^ 63

pub below : (z : ℤ) → lt_z z (pos 0) ≡ true → SFits w64 z → Below z
below (pos n) e f = absurd (omega (arith, ltb-true n 0 e))
below (negsuc n) e f =
    let t : ltb (suc n) 1 ≡ false = le-ltb (suc n) 1 (omega arith) in
    record {
      fits = record { sfits = rw t (omega (arith, f.sfits)) };
      positive = rw t tt;
      next = rw t (omega arith);
      most = omega (arith, f.sfits);
    }

-- of any other
pub above : (z : ℤ) → lt_z z (pos 0) ≡ false → SFits w64 z → T (non_neg z) × (nat_abs z < 2 ^ 63)
above (pos n) e f = (tt, f.sfits)
above (negsuc n) e f = let z : ◌≡◌ {A = ℕ} 0 1 = cc in absurd (omega arith)
