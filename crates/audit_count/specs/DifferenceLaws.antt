-- Laws of the differing positions: what a stretch of agreement and a difference do to what is left, and what is counted of it.
-- Assumes nothing.
use Rattle.std.specs.Prelude.{◌≡◌, refl, List, [], ◌∷◌, Bool, true, false, cond}
use Rattle.std.proofs.Common.{ap, ◌∙◌}
use Prim.Native.Nat.{ℕ, zero, suc, ◌+◌, ◌-◌, ◌≤◌, ◌<◌}
use native.Mathlib.Omega.{arith}
use Rattle.std.proofs.Math.ListN.{length}
use Rattle.facts.specs.Fact.{Holds, test}
use Rattle.facts.specs.FactLaws.{passes, fails}
use Rattle.facts.specs.RulesLaws.{by_test}
use Rattle.answers.specs.declared.Reading.{Reading}
use Rattle.audit_count.specs.Differences.{agrees, differences, setting, settings, strays, entries}

module _ (ref ys : List ℕ) where
  -- what is left of the differing positions from `at` on
  abbrev pub rest : ℕ → List ℕ
  rest at = differences ref ys at (length ys - at)

  pub over : (k m n : ℕ) → ((i : ℕ) → k ≤ i → i < k + m → Holds (agrees ref ys i))
      → differences ref ys k (m + n) ≡ differences ref ys (k + m) n
  unfolding differences
  over k zero n same = let e : k + 0 ≡ k = omega arith in let f : 0 + n ≡ n = omega arith in rw (e, f)
  over k (suc m) n same =
      let e : suc m + n ≡ suc (m + n) = omega arith in
      let f : k + suc m ≡ suc k + m = omega arith in
      rw (e, f, passes (agrees ref ys k) (same k (omega arith) (omega arith)))
      (over (suc k) m n (λ i h l. same i (omega arith) (omega arith)))

  -- a stretch of agreement leaves nothing out
  pub rest_over : (at k : ℕ) → at ≤ k → k ≤ length ys → ((i : ℕ) → at ≤ i → i < k → Holds (agrees ref ys i)) → rest at ≡ rest k
  rest_over at k h l same =
      let e : length ys - at ≡ k - at + (length ys - k) = omega arith in
      let f : at + (k - at) ≡ k = omega arith in
      rw e (over at (k - at) (length ys - k) (λ i a b. same i a (omega arith)) ∙ rw f)

  -- a difference stands first in what is left from it on
  pub rest_hit : (k : ℕ) → k < length ys → (Holds (agrees ref ys k) → ⊥) → rest k ≡ k ∷ rest (k + 1)
  unfolding differences
  rest_hit k h differs =
      let e : length ys - k ≡ suc (length ys - (k + 1)) = omega arith in
      let f : k + 1 ≡ suc k = omega arith in
      rw (e, fails (agrees ref ys k) differs, f)

  pub rest_none : (k : ℕ) → length ys ≤ k → rest k ≡ []
  unfolding differences
  rest_none k h = let e : length ys - k ≡ 0 = omega arith in rw e

-- ---- the counts

pub counts : (r : Reading) (ks : List ℕ) → settings r ks + strays r ks ≡ length ks
unfolding settings strays
counts r [] = refl
counts r (k ∷ ks) = one (test (setting r k)) (counts r ks)
  where
    one : (b : Bool) → settings r ks + strays r ks ≡ length ks → cond b 1 0 + settings r ks + (cond b 0 1 + strays r ks) ≡ suc (length ks)
    one true e = omega arith
    one false e = omega arith

pub length_entries : (r : Reading) (ks : List ℕ) → length (entries r ks) ≡ length ks
unfolding entries
length_entries r [] = refl
length_entries r (k ∷ ks) = ap suc (length_entries r ks)

-- there are no more than positions
pub few : (ref ys : List ℕ) (k n : ℕ) → length (differences ref ys k n) ≤ n
unfolding differences
few ref ys k zero = omega arith
few ref ys k (suc n) =
    let h = few ref ys (suc k) n in
    by_test (λ (l : List ℕ). length l ≤ suc n) (agrees ref ys k) (differences ref ys (suc k) n) (k ∷ differences ref ys (suc k) n)
    (λ e. omega arith) (λ e. omega arith)
