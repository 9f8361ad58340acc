-- The owner list that gives every setting of a region to owner 1.
-- Assumes nothing.
use Rattle.std.specs.Prelude.{ℕ, zero, suc, ◌-◌, ◌≤◌, ◌<◌, List, [], ◌++◌, ◌≡◌, refl, length}
use Rattle.std.proofs.Common.{inl, ◌∙◌, arith}
use Rattle.facts.specs.Fact.{Holds}
use Rattle.words.specs.Le.{le}
use Rattle.words.specs.Number.{number}
use Rattle.owners.specs.Owners.{ranges, range_at, range_from, range_fits, list_fits, owned}
use Rattle.demands.specs.Sheets.{at_number, past_number, length_past}

-- one range, 32..z-1
pub all_to_1 : ℕ → List ℕ
all_to_1 z = number 4 32 ++ (number 2 (z - 32) ++ (number 2 1 ++ []))

-- the empty list is good for every region
pub empty_good : (z : ℕ) → Holds (list_fits [] z)
empty_good z = (refl, (omega arith, λ i h. absurd (omega arith)))

module _ (z : ℕ) (some : 32 < z) (most : z ≤ 65536) where
  long : length (all_to_1 z) ≡ 8
  unfolding all_to_1
  long =
      length_past 4 32 _
      ∙ omega (arith, length_past 2 (z - 32) (number 2 1 ++ []), length_past 2 1 [])

  at : le 4 (all_to_1 z) 0 ≡ 32
  unfolding all_to_1
  at = at_number 4 32 _ (omega arith)

  wide : le 2 (all_to_1 z) 4 ≡ z - 32
  unfolding all_to_1
  wide = past_number 2 4 32 _ 0 ∙ at_number 2 (z - 32) _ (omega arith)

  whose : le 2 (all_to_1 z) 6 ≡ 1
  unfolding all_to_1
  whose = past_number 2 4 32 _ 2 ∙ past_number 2 2 (z - 32) _ 0 ∙ at_number 2 1 _ (omega arith)

  one : ranges (all_to_1 z) ≡ 1
  one = omega (arith, long)

  pub all_good : Holds (list_fits (all_to_1 z) z)
  all_good = (omega (arith, long), (omega (arith, one), each))
    where
      each : (i : ℕ) → i < ranges (all_to_1 z) → Holds (range_fits (range_at (all_to_1 z) i) (range_from (all_to_1 z) i) z)
      each zero h = (omega (arith, wide), (omega (arith, at), (omega (arith, at, wide), inl whose)))
      each (suc i) h = absurd (omega (arith, one))

  -- every setting is owner 1's
  pub all_owned : (k : ℕ) → 32 ≤ k → k < z → Holds (owned (all_to_1 z) 1 k)
  all_owned k low high none = none 0 (omega (arith, one)) (whose, (omega (arith, at), omega (arith, at, wide)))
