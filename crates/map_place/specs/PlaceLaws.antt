-- The walk that finds the base, and the call case by case.
-- Assumes nothing.
use Rattle.std.specs.Prelude.{ℕ, ◌+◌, ◌^◌, ◌≤◌, ◌<◌, List, ◌∷◌, ◌≡◌, Option, MatchOption, refl}
use Rattle.std.proofs.Math.Logic.{inl, inr}
use Rattle.std.proofs.Common.{Some, sym, ◌∙◌, arith}
use Rattle.facts.specs.Fact.{◌≤?◌, ◌and◌, Holds}
use Rattle.facts.specs.FactLaws.{passes, fails}
use Rattle.facts.specs.Rules.{run}
use Rattle.map_ranges.specs.declared.Range.{Range}
use Rattle.map_ranges.specs.Ranges.{ranges, all_end}
use Rattle.map_ranges.specs.RangesLaws.{after_ranges_lem, after_refused}
use Rattle.map_ranges.specs.Gathering.{Gathered, Refused}
use Rattle.map_free.specs.Free.{Free, Span, map_from, memory_map}
use Rattle.map_free.specs.Runs.{Run}
use Rattle.map_free.specs.FreeLaws.{Clean, map_next, map_none}
use Rattle.map_place.specs.declared.Placed.{Placed}
use Rattle.map_place.specs.Place.{page_up, fits_in, lowest_base, refused_place, placed_at, place_rules, placing, Places}

-- the base in one run, if it has one
abbrev pub BaseIn : ℕ → Span → Option ℕ → Type 0
BaseIn size s r = MatchOption r (Holds (fits_in size s) → ⊥) (λ base. Holds (fits_in size s) × (base ≡ page_up s.first))

-- the base in the first run that has one
abbrev pub Finds : List Range → ℕ → Option ℕ → Type 0
Finds rs size r =
    let base = lowest_base size (memory_map rs) in
    MatchOption r (base ≡ 4294967296) (λ b. (base ≡ b) × (b < 4294967296))

-- the walk stands at `at`: no run before it has a base
pub record Finding (rs : List Range) (size at : ℕ) : Type 0 where
  pub clean : Clean rs at
  pub left : lowest_base size (map_from rs at) ≡ lowest_base size (memory_map rs)

pub finding_start : (rs : List Range) (size : ℕ) → Finding rs size 0
unfolding memory_map
finding_start rs size = record { clean = inl refl; left = refl }

-- a base is below 2^32
in_below : (size : ℕ) (s : Span) → 1 ≤ size → Holds (fits_in size s) → page_up s.first < 2 ^ 32
in_below size s some h = omega (arith, h.1.1)

module _ {rs : List Range} {size at : ℕ} (w : Finding rs size at) (fit : Holds (all_end rs)) where
  pub finding_none : ((y : ℕ) → at ≤ y → Free rs y → ⊥) → lowest_base size (memory_map rs) ≡ 4294967296
  unfolding lowest_base
  finding_none none = sym (rw (map_none rs fit at w.clean none) at w.left)

  module _ (s : Span) (r : Run (Free rs) at s) where
    more : map_from rs at ≡ s ∷ map_from rs (s.last + 1)
    more = map_next rs fit at w.clean s r

    pub finding_here : 1 ≤ size → (base : ℕ) → Holds (fits_in size s) × (base ≡ page_up s.first) → Finds rs size (Some base)
    unfolding lowest_base
    finding_here some base (h, e) =
        (sym (rw (passes (fits_in size s) h) at (rw more at w.left)) ∙ sym e, omega (arith, e, in_below size s some h))

    pub finding_next : (Holds (fits_in size s) → ⊥) → Finding rs size (s.last + 1)
    unfolding lowest_base
    finding_next isnt = record { clean = inr r.over; left = rw (fails (fits_in size s) isnt) at (rw more at w.left) }

-- ---- the call

module _ (xs : List ℕ) (size : ℕ) where
  pub places_refused : {k : ℕ} → Refused xs k → Places xs size (refused_place k 0)
  unfolding placing
  places_refused w =
      sym (rw w.number_is (after_refused refused_place xs (λ rs. place_rules size (memory_map rs)) (λ z. w.isnt (w.number_is ∙ z))))

  module _ {n : ℕ} {t : List Range} (w : Gathered xs n t) where
    goes_on : placing xs size ≡ run refused_place (place_rules size (memory_map (ranges xs)))
    unfolding placing
    goes_on = after_ranges_lem refused_place xs (λ rs. place_rules size (memory_map rs)) w.goes_on w.fit (omega (arith, w.count_is, w.few))

    pub places_size : ((1 ≤ size) × (size ≤ 16777216) → ⊥) → Places xs size (refused_place 36 0)
    unfolding place_rules run
    places_size isnt = rw (goes_on, fails (1 ≤? size and size ≤? 16777216) isnt)

    module _ (low : 1 ≤ size) (high : size ≤ 16777216) (rows : List Range) (alike : memory_map rows ≡ memory_map (ranges xs)) where
      pub places_none : lowest_base size (memory_map rows) ≡ 4294967296 → Places xs size (refused_place 37 0)
      unfolding place_rules run
      places_none e =
          let same : lowest_base size (memory_map (ranges xs)) ≡ 4294967296 = rw alike at e in
          rw (goes_on, passes (1 ≤? size and size ≤? 16777216) (low, high), fails (lowest_base size (memory_map (ranges xs)) + 1 ≤? 2 ^ 32) (λ z. omega arith))

      pub places_at : (base : ℕ) → (lowest_base size (memory_map rows) ≡ base) × (base < 4294967296) → Places xs size (placed_at base)
      unfolding place_rules run
      places_at base (e, l) =
          let same : lowest_base size (memory_map (ranges xs)) ≡ base = rw alike at e in
          rw (goes_on, passes (1 ≤? size and size ≤? 16777216) (low, high), same, passes (base + 1 ≤? 2 ^ 32) (omega arith))

-- any two answers that the promise of `place` admits are the same
pub one_place : (xs : List ℕ) (size : ℕ) (r s : Placed) → Places xs size r → Places xs size s → r ≡ s
one_place xs size r s a b = cc
