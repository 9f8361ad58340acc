-- Laws of what a sheet sets at an offset.
-- Assumes nothing.
use Rattle.std.specs.Prelude.{ℕ, zero, suc, ◌+◌, ◌-◌, ◌*◌, ◌≤◌, ◌<◌, List, ◌≡◌, refl, get_or}
use Rattle.std.proofs.Common.{sym, ◌∙◌, arith}
use Rattle.std.proofs.Math.Decide.{dec_lt}
use Rattle.facts.specs.Fact.{Holds}
use Rattle.facts.specs.FactLaws.{passes, fails}
use Rattle.facts.specs.RulesLaws.{by_test}
use Rattle.words.specs.Le.{Bytes}
use Rattle.words.specs.LeLaws.{le_lt}
use Rattle.sheet.specs.Sheet.{count, offset, size, position, body_at, bodies_fit}
use Rattle.sheet.specs.SheetLaws.{ascending}
use Rattle.sheet.specs.ByteAt.{covers, byte_by, byte_at}

-- one entry more
pub by_covers : (s : List ℕ) (i k : ℕ) → offset s i ≤ k → k < offset s i + size s i
    → byte_by s (suc i) k ≡ suc (get_or s (position s i + (k - offset s i)) 0)
unfolding byte_by
by_covers s i k a b = rw (passes (covers s i k) (a, b))

pub by_passes : (s : List ℕ) (i k : ℕ) → (Holds (covers s i k) → ⊥) → byte_by s (suc i) k ≡ byte_by s i k
unfolding byte_by
by_passes s i k out = rw (fails (covers s i k) out)

-- where no entry reaches, nothing is set
pub by_none : (s : List ℕ) (n k : ℕ) → ((i : ℕ) → i < n → Holds (covers s i k) → ⊥) → byte_by s n k ≡ 0
unfolding byte_by
by_none s zero k out = refl
by_none s (suc n) k out = by_passes s n k (out n (omega arith)) ∙ by_none s n k (λ i h. out i (omega arith))

-- where something is set, an entry reaches
pub by_some : (s : List ℕ) (n k : ℕ) → (byte_by s n k ≡ 0 → ⊥) → (i : ℕ) × (i < n) × Holds (covers s i k)
unfolding byte_by
by_some s zero k some = absurd (some refl)
by_some s (suc n) k some =
    elim (dec_lt k (offset s n)) [
      | yes l ↦ let (i, h, c) = by_some s n k (λ e. some (by_passes s n k (λ c. omega (arith, c.0)) ∙ e)) in (i, omega arith, c)
      | no l ↦
          elim (dec_lt k (offset s n + size s n)) [
            | yes g ↦ (n, omega arith, (omega arith, g))
            | no g ↦ let (i, h, c) = by_some s n k (λ e. some (by_passes s n k (λ c. g c.1) ∙ e)) in (i, omega arith, c)
          ]
    ]

pub byte_some : (s : List ℕ) (k : ℕ) → (byte_at s k ≡ 0 → ⊥) → (i : ℕ) × (i < count s) × Holds (covers s i k)
unfolding byte_at
byte_some s k some = by_some s (count s) k some

-- where no entry of a sheet reaches, nothing is set
pub byte_none : (s : List ℕ) (k : ℕ) → ((i : ℕ) → i < count s → Holds (covers s i k) → ⊥) → byte_at s k ≡ 0
unfolding byte_at
byte_none s k out = by_none s (count s) k out

-- as entries ascend, the one that reaches k sets it
module _ (s : List ℕ) (fits : Holds (bodies_fit s)) (i k : ℕ) (reach : Holds (covers s i k)) where
  by_one : (n : ℕ) → i < n → n ≤ count s → byte_by s n k ≡ suc (get_or s (body_at s i + (k - offset s i)) 0)
  by_one zero h l = absurd (omega arith)
  by_one (suc n) h l =
      elim (dec_lt i n) [
        | yes g ↦ by_passes s n k (λ c. omega (arith, c.0, reach.1, ascending s fits n i g l)) ∙ by_one n g (omega arith)
        | no g ↦
            let e : n ≡ i = omega arith in
            let body : position s i ≡ body_at s i = (fits.0 i (omega arith)).1.0 in
            rw e (rw body at (by_covers s i k reach.0 reach.1))
      ]

  pub byte_one : i < count s → byte_at s k ≡ suc (get_or s (body_at s i + (k - offset s i)) 0)
  unfolding byte_at
  byte_one h = by_one (count s) h (omega arith)

-- the last position that any sheet can set is 2^32 - 2 + 65,535
pub byte_high : (s : List ℕ) → Bytes s → (k : ℕ) → 4295032830 ≤ k → byte_at s k ≡ 0
unfolding byte_at
byte_high s b k h =
    by_none s (count s) k
    (λ i l c. omega (arith, c.1, le_lt 4 s (16 + 8 * i) b, le_lt 2 s (16 + 8 * i + 4) b))

-- an entry starts below 2^32, so from there on what is set begins no run
by_back : (s : List ℕ) → Bytes s → (n k : ℕ) → 4294967295 ≤ k → byte_by s n k ≡ 0 → byte_by s n (suc k) ≡ 0
unfolding byte_by
by_back s b zero k h e = refl
by_back s b (suc i) k h e =
    elim (dec_lt k (offset s i + size s i)) [
      | yes g ↦ let z : suc (get_or s (position s i + (k - offset s i)) 0) ≡ 0 =
          sym (by_covers s i k (omega (arith, le_lt 4 s (16 + 8 * i) b)) g) ∙ e in absurd (omega arith)
      | no g ↦ by_passes s i (suc k) (λ c. g (omega (arith, c.1)))
          ∙ by_back s b i k h (sym (by_passes s i k (λ c. g (omega (arith, c.1)))) ∙ e)
    ]

pub byte_back : (s : List ℕ) → Bytes s → (k : ℕ) → 4294967295 ≤ k → byte_at s k ≡ 0 → byte_at s (suc k) ≡ 0
unfolding byte_at
byte_back s b k h e = by_back s b (count s) k h e

-- what is set is a byte
by_small : (s : List ℕ) → Bytes s → (n k : ℕ) → byte_by s n k ≤ 256
unfolding byte_by Bytes
by_small s b zero k = omega arith
by_small s b (suc i) k =
    by_test (λ (x : ℕ). x ≤ 256) (covers s i k) _ _ (λ h. omega (arith, b (position s i + (k - offset s i)))) (λ h. by_small s b i k)

pub byte_small : (s : List ℕ) → Bytes s → (k : ℕ) → byte_at s k ≤ 256
unfolding byte_at
byte_small s b k = by_small s b (count s) k
