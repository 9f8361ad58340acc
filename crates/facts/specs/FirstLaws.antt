-- The first fault is the only number of its kind.
-- Assumes nothing.
use Rattle.std.specs.Prelude.{ℕ, zero, suc, ◌+◌, ◌≤◌, ◌<◌, Bool, true, false, cond, ◌≡◌, refl}
use Rattle.std.proofs.Common.{arith}
use Rattle.std.proofs.Math.Decide.{dec_lt}
use Rattle.facts.specs.Fact.{Fact, test, Holds}
use Rattle.facts.specs.FactLaws.{holds, fails_not}
use Rattle.facts.specs.First.{First, first_fault, first_from}

-- no other number is
pub first_one : {p : ℕ → Fact} {n r s : ℕ} → First p n r → First p n s → r ≡ s
first_one {p} {n} {r} {s} a b =
    elim (dec_lt r s) [
      | yes h ↦ absurd (a.fault (omega (arith, b.within)) (b.clear r h))
      | no h ↦ elim (dec_lt s r) [
        | yes g ↦ absurd (b.fault (omega (arith, a.within)) (a.clear s g))
        | no g ↦ omega arith
      ]
    ]

-- the search from i on, where p holds below i
from : (p : ℕ → Fact) (m i : ℕ) → ((k : ℕ) → k < i → Holds (p k)) → First p (i + m) (first_from p i m)
unfolding first_from
from p zero i below = record { within = omega arith; clear = below; fault = λ h. absurd (omega arith) }
from p (suc m) i below = go (test (p i)) refl (from p m (suc i))
  where
    more : test (p i) ≡ true → (k : ℕ) → k < suc i → Holds (p k)
    more e k h = elim (dec_lt k i) [ yes g ↦ below k g | no g ↦ let s : k ≡ i = omega arith in rw s (holds (p i) e) ]

    go : (b : Bool) → test (p i) ≡ b → (((k : ℕ) → k < suc i → Holds (p k)) → First p (suc i + m) (first_from p (suc i) m))
        → First p (i + suc m) (cond b (first_from p (suc i) m) i)
    go true e rest =
        let r = rest (more e) in
        record { within = omega (arith, r.within); clear = r.clear; fault = λ h. r.fault (omega arith) }
    go false e rest = record { within = omega arith; clear = below; fault = λ h. fails_not (p i) e }

pub first : (p : ℕ → Fact) (n : ℕ) → First p n (first_fault p n)
unfolding first_fault
first p n =
    let r = from p n 0 (λ k h. absurd (omega arith)) in
    record { within = omega (arith, r.within); clear = r.clear; fault = λ h. r.fault (omega arith) }

-- what a search shows
pub is_first : {p : ℕ → Fact} {n r : ℕ} → First p n r → r ≡ first_fault p n
is_first {p} {n} f = first_one f (first p n)

pub none_at_fault : (p : ℕ → Fact) (n : ℕ) → first_fault p n ≡ n → (i : ℕ) → i < n → Holds (p i)
none_at_fault p n e i h = (first p n).clear i (omega arith)

pub none_first : (p : ℕ → Fact) (n : ℕ) → ((i : ℕ) → i < n → Holds (p i)) → n ≤ first_fault p n
none_first p n h =
    elim (dec_lt (first_fault p n) n) [ yes l ↦ absurd ((first p n).fault l (h (first_fault p n) l)) | no l ↦ omega arith ]

-- checks that pass together have one first fault
pub first_cong : (p q : ℕ → Fact) (n : ℕ) → ((i : ℕ) → i < n → test (p i) ≡ test (q i)) → first_fault p n ≡ first_fault q n
unfolding first_fault first_from
first_cong p q n same = go n 0 (λ k h. same k (omega arith))
  where
    go : (m i : ℕ) → ((k : ℕ) → k < i + m → test (p k) ≡ test (q k)) → first_from p i m ≡ first_from q i m
    go zero i e = refl
    go (suc m) i e = rw (e i (omega arith), go m (suc i) (λ k h. e k (omega arith)))
