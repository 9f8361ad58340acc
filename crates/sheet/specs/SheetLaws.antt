-- Laws of a sheet whose bodies pass 15: they lie in it, and its entries ascend.
-- Assumes nothing.
use Prim.Native.Nat.{ℕ, zero, suc, ◌+◌, ◌-◌, ◌≤◌, ◌<◌}
use Rattle.std.specs.Prelude.{List, ◌≡◌, length}
use native.Mathlib.Omega.{arith}
use Rattle.std.proofs.Math.Decide.{dec_lt}
use Rattle.facts.specs.Fact.{Holds}
use Rattle.sheet.specs.Sheet.{count, offset, size, body_at, bodies_fit}

body_mono : (s : List ℕ) (i k : ℕ) → body_at s i ≤ body_at s (i + k)
unfolding body_at
body_mono s i zero = let e : i + 0 ≡ i = omega arith in rw e (omega arith)
body_mono s i (suc k) = let e : i + suc k ≡ suc (i + k) = omega arith in rw e (omega (arith, body_mono s i k))

module _ (s : List ℕ) (fits : Holds (bodies_fit s)) where
  -- a body lies in the sheet
  pub bodies_within : (i : ℕ) → i < count s → body_at s i + size s i ≤ length s
  unfolding body_at
  bodies_within i h =
      let e : suc i + (count s - suc i) ≡ count s = omega arith in
      let up : body_at s (suc i) ≤ body_at s (count s) = rw e at (body_mono s (suc i) (count s - suc i)) in
      omega (arith, up, fits.1)

  -- an entry starts at or past the end of each before it
  pub ascending : (j i : ℕ) → i < j → j < count s → offset s i + size s i ≤ offset s j
  ascending zero i l h = absurd (omega arith)
  ascending (suc j) i l h =
      let next : offset s j + size s j ≤ offset s (suc j) = (fits.0 (suc j) h).1.1 in
      elim (dec_lt i j) [
        | yes g ↦ omega (arith, ascending j i g (omega arith), next)
        | no g ↦ let e : i ≡ j = omega arith in rw e next
      ]
