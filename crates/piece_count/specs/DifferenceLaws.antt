-- Laws of the differing positions: what agreement, a difference and a cut do to them, and how many there are.
-- Assumes nothing.
use Rattle.std.specs.Prelude.{◌≡◌, Bool, length, get_or}
use Rattle.std.proofs.Math.Path.{refl}
use Rattle.std.proofs.Common.{sym, ap, ◌∙◌}
use mathlib.Core.List.{List, [], ◌∷◌, ◌++◌}
use Rattle.std.proofs.Math.Bool.{true, false, cond}
use Prim.Native.Nat.{ℕ, zero, suc, ◌+◌, ◌-◌, ◌*◌, ◌≤◌, ◌<◌}
use native.Mathlib.Omega.{arith}
use Rattle.facts.specs.Fact.{Holds, test}
use Rattle.facts.specs.FactLaws.{passes, fails}
use Rattle.facts.specs.RulesLaws.{by_test}
use Rattle.answers.specs.declared.Reading.{Reading}
use Rattle.audit_count.specs.Differences.{agrees, differences, setting, settings, strays, flips, bits, entries}
use Rattle.audit_count.specs.FlipLaws.{flips_most}

-- ---- the positions

module _ (ref ys : List ℕ) where
  -- of two stretches, one after the other
  pub cut : (k m n : ℕ) → differences ref ys k (m + n) ≡ differences ref ys k m ++ differences ref ys (k + m) n
  unfolding differences
  cut k zero n = let e : k + 0 ≡ k = omega arith in let f : 0 + n ≡ n = omega arith in rw (e, f)
  cut k (suc m) n =
      let e : suc m + n ≡ suc (m + n) = omega arith in
      let f : k + suc m ≡ suc k + m = omega arith in
      rw (e, f, cut (suc k) m n) (both (test (agrees ref ys k)) k (differences ref ys (suc k) m) (differences ref ys (suc k + m) n))
    where
      both : (b : Bool) (k : ℕ) (l l' : List ℕ) → cond b (l ++ l') (k ∷ (l ++ l')) ≡ cond b l (k ∷ l) ++ l'
      both true k l l' = refl
      both false k l l' = refl

  -- where all agree there is none
  pub clear : (k n : ℕ) → ((i : ℕ) → k ≤ i → i < k + n → Holds (agrees ref ys i)) → differences ref ys k n ≡ []
  unfolding differences
  clear k zero same = refl
  clear k (suc n) same =
      rw (passes (agrees ref ys k) (same k (omega arith) (omega arith)))
      (clear (suc k) n (λ i h l. same i (omega arith) (omega arith)))

  -- one position that differs
  pub hit : (k : ℕ) → (Holds (agrees ref ys k) → ⊥) → differences ref ys k 1 ≡ k ∷ []
  unfolding differences
  hit k differs = rw (fails (agrees ref ys k) differs)

-- two references that agree there have the same
pub same_there : (a b ys : List ℕ) (k n : ℕ) → ((i : ℕ) → k ≤ i → i < k + n → get_or a i 0 ≡ get_or b i 0)
    → differences a ys k n ≡ differences b ys k n
unfolding differences
same_there a b ys k zero same = refl
same_there a b ys k (suc n) same =
    rw (same k (omega arith) (omega arith), same_there a b ys (suc k) n (λ i h l. same i (omega arith) (omega arith)))

pub same_bits : (a b ys : List ℕ) (r : Reading) (k n : ℕ) → ((i : ℕ) → k ≤ i → i < k + n → get_or a i 0 ≡ get_or b i 0)
    → bits a ys r (differences a ys k n) ≡ bits b ys r (differences b ys k n)
unfolding differences bits
same_bits a b ys r k zero same = refl
same_bits a b ys r k (suc n) same =
    let e = same k (omega arith) (omega arith) in
    rw e (one (test (agrees b ys k)) (same_bits a b ys r (suc k) n (λ i h l. same i (omega arith) (omega arith))))
  where
    one : (c : Bool) → bits a ys r (differences a ys (suc k) n) ≡ bits b ys r (differences b ys (suc k) n)
        → bits a ys r (cond c (differences a ys (suc k) n) (k ∷ differences a ys (suc k) n))
        ≡ bits b ys r (cond c (differences b ys (suc k) n) (k ∷ differences b ys (suc k) n))
    one true f = f
    one false f = rw (same k (omega arith) (omega arith), f)

-- ---- the counts

pub settings_both : (r : Reading) (l m : List ℕ) → settings r (l ++ m) ≡ settings r l + settings r m
unfolding settings
settings_both r [] m = omega arith
settings_both r (k ∷ l) m = omega (arith, settings_both r l m)

pub strays_both : (r : Reading) (l m : List ℕ) → strays r (l ++ m) ≡ strays r l + strays r m
unfolding strays
strays_both r [] m = omega arith
strays_both r (k ∷ l) m = omega (arith, strays_both r l m)

pub bits_both : (ref ys : List ℕ) (r : Reading) (l m : List ℕ) → bits ref ys r (l ++ m) ≡ bits ref ys r l + bits ref ys r m
unfolding bits
bits_both ref ys r [] m = omega arith
bits_both ref ys r (k ∷ l) m = omega (arith, bits_both ref ys r l m)

pub entries_both : (r : Reading) (l m : List ℕ) → entries r (l ++ m) ≡ entries r l ++ entries r m
unfolding entries
entries_both r [] m = refl
entries_both r (k ∷ l) m = rw (entries_both r l m)

pub counts : (r : Reading) (ks : List ℕ) → settings r ks + strays r ks ≡ length ks
unfolding settings strays
counts r [] = refl
counts r (k ∷ ks) = one (test (setting r k)) (counts r ks)
  where
    one : (b : Bool) → settings r ks + strays r ks ≡ length ks → cond b 1 0 + settings r ks + (cond b 0 1 + strays r ks) ≡ suc (length ks)
    one true e = omega arith
    one false e = omega arith

pub length_entries : (r : Reading) (ks : List ℕ) → length (entries r ks) ≡ length ks
unfolding entries
length_entries r [] = refl
length_entries r (k ∷ ks) = ap suc (length_entries r ks)

-- there are no more than positions
pub few : (ref ys : List ℕ) (k n : ℕ) → length (differences ref ys k n) ≤ n
unfolding differences
few ref ys k zero = omega arith
few ref ys k (suc n) =
    let h = few ref ys (suc k) n in
    by_test (λ (l : List ℕ). length l ≤ suc n) (agrees ref ys k) (differences ref ys (suc k) n) (k ∷ differences ref ys (suc k) n)
    (λ e. omega arith) (λ e. omega arith)

-- nor more bits than eight for each
pub bits_most : (ref ys : List ℕ) (r : Reading) (ks : List ℕ) → bits ref ys r ks ≤ 8 * length ks
unfolding bits
bits_most ref ys r [] = omega arith
bits_most ref ys r (k ∷ ks) =
    by_test (λ (m : ℕ). m + bits ref ys r ks ≤ 8 * suc (length ks)) (setting r k) (flips 8 (get_or ys k 0) (get_or ref k 0)) 0
    (λ h. omega (arith, bits_most ref ys r ks, flips_most 8 (get_or ys k 0) (get_or ref k 0))) (λ h. omega (arith, bits_most ref ys r ks))
