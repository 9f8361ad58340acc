-- What placing an entry says.
-- Assumes nothing.
use Rattle.std.specs.Prelude.{ℕ, ◌+◌, ◌-◌, ◌/◌, ◌%◌, ◌^◌, ◌≤◌, ◌≡◌, refl, eqb}
use Rattle.std.proofs.Common.{arith, eqb-true}
use Rattle.std.proofs.lemmas.Bool.{eqb-false}
use Rattle.facts.specs.Fact.{◌≤?◌, Holds}
use Rattle.facts.specs.FactLaws.{passes, fails}
use Rattle.facts.specs.RulesLaws.{by_cond, by_test}
use Rattle.table.specs.declared.Place.{Place}
use Rattle.table.specs.Entry.{refused_place, type_fits, reserved_fits, fitted, place_of}

-- a place lies in the image; an entry has one unless it is refused with 12, 22 or 13
pub record Placed (size : ℕ) (w : Place) : Type 0 where
  pub within : w.at ≤ size
  pub fits : w.number ≡ 0 → w.at + 4 ≤ size
  pub numbers : (w.number ≡ 12 → ⊥) → (w.number ≡ 22 → ⊥) → (w.number ≡ 13 → ⊥) → w.number ≡ 0

fitted_placed : (size at : ℕ) → Placed size (fitted size at)
fitted_placed size at =
    by_test (Placed size) (at + 4 ≤? size) _ _
    (λ h. record { within = omega arith; fits = λ e. h; numbers = λ a b c. refl })
    (λ h. record { within = omega arith; fits = λ e. absurd (omega arith); numbers = λ a b c. absurd (c refl) })

pub placed : (size w : ℕ) → Placed size (place_of size w)
unfolding place_of
placed size w =
    let low = w % 2 ^ 24 in
    by_test (Placed size) (type_fits w) _ _
    (λ h.
    by_test (Placed size) (reserved_fits w) _ _
    (λ r.
    by_cond (Placed size) (eqb (w / 2 ^ 31 % 2) 0) _ _ (λ e. fitted_placed size low)
    (λ e.
    by_test (Placed size) (2 ^ 24 - low ≤? size) _ _ (λ k. fitted_placed size (size - (2 ^ 24 - low)))
    (λ k. record { within = omega arith; fits = λ e. absurd (omega arith); numbers = λ a b c. absurd (c refl) })))
    (λ r. record { within = omega arith; fits = λ e. absurd (omega arith); numbers = λ a b c. absurd (b refl) }))
    (λ h. record { within = omega arith; fits = λ e. absurd (omega arith); numbers = λ a b c. absurd (a refl) })

-- where an entry points that isn't refused, and that its reserved bits are right
pub record Spot (size w : ℕ) (p : Place) : Type 0 where
  pub reserved : p.number ≡ 0 → Holds (reserved_fits w)
  pub low : p.number ≡ 0 → w / 2 ^ 31 % 2 ≡ 0 → p.at ≡ w % 2 ^ 24
  pub back : p.number ≡ 0 → (w / 2 ^ 31 % 2 ≡ 0 → ⊥) → (2 ^ 24 - w % 2 ^ 24 ≤ size) × (p.at ≡ size - (2 ^ 24 - w % 2 ^ 24))

refused_spot : (size w k : ℕ) → (k ≡ 0 → ⊥) → Spot size w (refused_place k)
refused_spot size w k h = record { reserved = λ e. absurd (h e); low = λ e. absurd (h e); back = λ e. absurd (h e) }

pub spot_of : (size w : ℕ) → Spot size w (place_of size w)
unfolding place_of
spot_of size w =
    let low = w % 2 ^ 24 in
    by_test (Spot size w) (type_fits w) _ _
    (λ h.
    by_test (Spot size w) (reserved_fits w) _ _
    (λ r.
    by_cond (Spot size w) (eqb (w / 2 ^ 31 % 2) 0) _ _
    (λ e.
    by_test (Spot size w) (low + 4 ≤? size) _ _
    (λ f. record { reserved = λ a. r; low = λ a b. refl; back = λ a b. absurd (b (eqb-true (w / 2 ^ 31 % 2) 0 e)) })
    (λ f. refused_spot size w 13 (λ z. omega arith)))
    (λ e.
    by_test (Spot size w) (2 ^ 24 - low ≤? size) _ _
    (λ k.
    by_test (Spot size w) (size - (2 ^ 24 - low) + 4 ≤? size) _ _
    (λ f. record { reserved = λ a. r; low = λ a b. absurd (eqb-false (w / 2 ^ 31 % 2) 0 e b); back = λ a b. (k, refl) })
    (λ f. refused_spot size w 13 (λ z. omega arith))) (λ k. refused_spot size w 13 (λ z. omega arith))))
    (λ r. refused_spot size w 22 (λ z. omega arith)))
    (λ h. refused_spot size w 12 (λ z. omega arith))

-- ---- the order for one entry: 12, then 22 wherever it points, then 13

module _ (size w : ℕ) where
  pub type_first : (Holds (type_fits w) → ⊥) → place_of size w ≡ refused_place 12
  unfolding place_of
  type_first h = rw (fails (type_fits w) h)

  pub reserved_first : Holds (type_fits w) → (Holds (reserved_fits w) → ⊥) → place_of size w ≡ refused_place 22
  unfolding place_of
  reserved_first h k = rw (passes (type_fits w) h, fails (reserved_fits w) k)
