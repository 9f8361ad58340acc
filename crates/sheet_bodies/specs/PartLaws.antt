-- A part of a list that is lent on and comes back changed: xs with m in the place of its `long` elements from `from` on.
-- Assumes nothing.
use Rattle.std.specs.Prelude.{◌≡◌, List, ◌++◌, ℕ, ◌+◌, ◌-◌, ◌≤◌, ◌<◌, length, get_or, take, drop}
use Rattle.std.proofs.Common.{◌∙◌, arith, length-append, length-drop, length-take-le, get_or-append-add, get_or-take, get_or-drop}
use Rattle.std.proofs.Math.ListN.{get_or-append}
use Rattle.sheet_bodies.specs.Set.{joined}

module _ (xs : List ℕ) (from long : ℕ) (m : List ℕ) (fits : from + long ≤ length xs) (same : length m ≡ long) where
  front : length (take from xs) ≡ from
  front = length-take-le from xs (omega arith)

  pub length_joined : length (joined xs from long m) ≡ length xs
  length_joined = simp (length-append, length-drop) (omega (arith, front))

  pub joined_low : (k : ℕ) → k < from → get_or (joined xs from long m) k 0 ≡ get_or xs k 0
  joined_low k h =
      get_or-append (take from xs) (m ++ drop long (drop from xs)) 0 k (rw front h) ∙ get_or-take from xs k 0 h

  past : (k : ℕ) → get_or (joined xs from long m) (from + k) 0 ≡ get_or (m ++ drop long (drop from xs)) k 0
  past k = rw front at (get_or-append-add (take from xs) (m ++ drop long (drop from xs)) k 0)

  pub joined_mid : (k : ℕ) → k < long → get_or (joined xs from long m) (from + k) 0 ≡ get_or m k 0
  joined_mid k h = past k ∙ get_or-append m (drop long (drop from xs)) 0 k (rw same h)

  pub joined_high : (k : ℕ) → from + long ≤ k → get_or (joined xs from long m) k 0 ≡ get_or xs k 0
  joined_high k h =
      let j = k - from - long in
      let e : from + (long + j) ≡ k = omega arith in
      let step : get_or (m ++ drop long (drop from xs)) (long + j) 0 ≡ get_or (drop long (drop from xs)) j 0 =
      rw same at (get_or-append-add m (drop long (drop from xs)) j 0) in
      rw e at (past (long + j) ∙ step ∙ get_or-drop long (drop from xs) j 0 ∙ get_or-drop from xs (long + j) 0)
