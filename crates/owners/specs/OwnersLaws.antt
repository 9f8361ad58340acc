-- The ranges of a good list ascend, so the first that ends past a byte is the only one that can have it; and what the walk over them keeps.
-- Assumes nothing.
use Rattle.std.specs.Prelude.{ℕ, zero, suc, ◌≤◌, ◌<◌, List, ◌≡◌, Option, MatchOption}
use Rattle.std.proofs.Common.{arith}
use Rattle.std.proofs.Math.Decide.{dec_lt}
use Rattle.facts.specs.Fact.{Holds}
use Rattle.owners.specs.Owners.{ranges, range_at, range_end, list_fits, holds_byte, owned}

-- all ranges before range i end at k or before
abbrev pub PassedBy : List ℕ → ℕ → ℕ → Type 0
PassedBy o i k = (j : ℕ) → j < i → range_end o j ≤ k

-- i is the first range that ends past k, or none does
pub record Reached (o : List ℕ) (k i : ℕ) : Type 0 where
  pub within : i ≤ ranges o
  pub passed : PassedBy o i k
  pub ahead : i < ranges o → k < range_end o i

-- r says how far from k on the bytes are this owner's, as range i has them: `None` where k isn't
abbrev pub Runs : List ℕ → ℕ → ℕ → ℕ → Option ℕ → Type 0
Runs o owner k i r =
    MatchOption r (Holds (owned o owner k) → ⊥)
    (λ e. (k < e) × (e ≡ range_end o i) × ((j : ℕ) → k ≤ j → j < e → Holds (owned o owner j)))

module _ (o : List ℕ) (z : ℕ) (good : Holds (list_fits o z)) where
  -- a range begins at or past the end of each before it
  pub ranges_ascend : (j i : ℕ) → i < j → j < ranges o → range_end o i ≤ (range_at o j).offset
  ranges_ascend zero i l h = absurd (omega arith)
  ranges_ascend (suc j) i l h =
      let here = good.1.1 (suc j) h in
      let before = good.1.1 j (omega arith) in
      elim (dec_lt i j) [
        | yes g ↦ omega (arith, ranges_ascend j i g (omega arith), here.1.0)
        | no g ↦ let e : i ≡ j = omega arith in rw e here.1.0
      ]

  -- a byte that range i has is the owner's of that range
  pub has : (owner k i : ℕ) → i < ranges o → Holds (holds_byte o owner k i) → Holds (owned o owner k)
  has owner k i h is none = none i h is

  -- a byte that the first range which ends past it hasn't, or of which another is the owner, isn't this owner's
  pub hasn't : (owner k i : ℕ) → Reached o k i → (i < ranges o → Holds (holds_byte o owner k i) → ⊥) → Holds (owned o owner k) → ⊥
  hasn't owner k i reached not some = some (λ j h is. go j h is)
    where
      go : (j : ℕ) → j < ranges o → Holds (holds_byte o owner k j) → ⊥
      go j h is =
          elim (dec_lt j i) [
            | yes before ↦ omega (arith, reached.passed j before, is.1.1)
            | no after ↦
                elim (dec_lt i j) [
                  | yes past ↦ omega (arith, ranges_ascend j i past h, reached.ahead (omega arith), is.1.0)
                  | no same ↦ let e : j ≡ i = omega arith in not (omega arith) (rw e at is)
                ]
          ]

-- the ranges before the first that ends past k end at or before any later place
pub passed_on : (o : List ℕ) (i k l : ℕ) → PassedBy o i k → k ≤ l → PassedBy o i l
passed_on o i k l h le j hj = omega (arith, h j hj)
