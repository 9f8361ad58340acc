-- Request #111's claims of the place: it is legal, the image lies whole in free bytes and in one run of the map there, and at no lower base; 37
-- is the answer exactly where no base will do.
-- Assumes nothing.
use Rattle.std.specs.Prelude.{ℕ, zero, suc, ◌+◌, ◌^◌, ◌≤◌, ◌<◌, ◌⊎◌, ◌≡◌, refl, length}
use mathlib.Core.List.{List, [], ◌∷◌}
use Rattle.std.proofs.Common.{inl, inr, sym, ap, ◌∙◌}
use native.Mathlib.Omega.{arith}
use Rattle.std.proofs.Math.Decide.{dec_lt}
use Rattle.facts.specs.Fact.{◌≤?◌, ◌≡?◌, ◌and◌, test, Holds}
use Rattle.facts.specs.FactLaws.{passes, fails}
use Rattle.facts.specs.Rules.{answer, run}
use Rattle.facts.specs.RulesLaws.{by_test}
use Rattle.header.specs.Base.{legal_base}
use Rattle.handoff_list.specs.Blocks.{blocks}
use Rattle.map_ranges.specs.declared.Range.{Range}
use Rattle.map_ranges.specs.Ranges.{ranges, all_end, after_ranges}
use Rattle.map_free.specs.Free.{Free, Span, span, map_from, memory_map}
use Rattle.map_free.specs.Runs.{Run, Runs}
use Rattle.map_free.specs.FreeLaws.{decide, map_runs}
use Rattle.map_place.specs.declared.Placed.{Placed}
use Rattle.map_place.specs.Place.{page_up, fits_in, lowest_base, refused_place, placed_at, place_rules, placing, Places}
use Rattle.map_laws.specs.Claims.{nth, Lies, InOne, Asked, Best}

module _ (F : ℕ → Type 0) (size : ℕ) (some : 1 ≤ size) where
  -- a base in a run means that the run has one
  run_fits : (at : ℕ) (s : Span) → Run F at s → (b : ℕ) → at ≤ b → Lies F size b → b ≤ s.last → Holds (fits_in size s) × (page_up s.first ≤ b)
  run_fits at s r b h w l =
      let from : s.first ≤ b =
      elim (dec_lt b s.first) [ yes g ↦ absurd (r.gap b h g (w.free b (omega arith) (omega arith))) | no g ↦ omega arith ] in
      let ends : b + size ≤ s.last + 1 =
      elim (dec_lt (s.last + 1) (b + size)) [ yes g ↦ absurd (r.over (w.free (s.last + 1) (omega arith) g)) | no g ↦ omega arith ] in
      let up : page_up s.first ≤ b = omega (arith, w.legal.0) in
      ((omega arith, (omega arith, omega (arith, w.legal.1))), up)

  least : (l : List Span) (at : ℕ) → Runs F at l → (b : ℕ) → at ≤ b → Lies F size b → lowest_base size l ≤ b
  unfolding lowest_base
  least [] at r b h w = absurd (r b h (w.free b (omega arith) (omega arith)))
  least (s ∷ l) at r b h w =
      elim (dec_lt s.last b) [
        | yes g ↦ let rest = least l (s.last + 1) r.1 b (omega arith) w in
            by_test (λ (v : ℕ). v ≤ b) (fits_in size s) _ _ (λ f. omega (arith, f.0)) (λ _. rest)
        | no g ↦ let f = run_fits at s r.0 b h w (omega arith) in rw (passes (fits_in size s) f.0) f.1
      ]

  right : (l : List Span) (at : ℕ) → Runs F at l → lowest_base size l < 2 ^ 32 → Lies F size (lowest_base size l) × InOne l size (lowest_base size l)
  unfolding lowest_base
  right [] at r h = absurd (omega arith)
  right (s ∷ l) at r h =
      by_test (λ (v : ℕ). v < 2 ^ 32 → Lies F size v × InOne (s ∷ l) size v) (fits_in size s) _ _
      (λ f _. (
        record { legal = f.1; free = λ y a b. r.0.free y (omega arith) (omega (arith, f.0)) },
        (zero, omega arith, omega arith, f.0),
      ))
      (λ _ k. let m = right l (s.last + 1) r.1 k in (m.0, (suc m.1.0, omega (arith, m.1.1), m.1.2, m.1.3))) h

-- ---- the call

module _ (xs : List ℕ) (size : ℕ) where
  asked : ((placing xs size).number ≡ 0) → Asked xs size
  unfolding placing place_rules run after_ranges
  asked =
      by_test P ((blocks xs).number ≡? 0) _ _
      (λ listed. by_test P (all_end (ranges xs)) _ _
      (λ fit. by_test P (length (ranges xs) ≤? 128) _ _
      (λ few. by_test P (1 ≤? size and size ≤? 16777216) _ _
      (λ s _. record { listed = listed; fit = fit; few = few; some = s.0; most = s.1 })
      (λ _ e. absurd (omega arith)))
      (λ _ e. absurd (omega arith)))
      (λ _ e. absurd (omega arith)))
      (λ isnt e. absurd (isnt e))
    where
      P : Placed → Type 0
      P r = r.number ≡ 0 → Asked xs size

  module _ (a : Asked xs size) where
    base : ℕ
    base = lowest_base size (memory_map (ranges xs))

    found : lowest_base size (memory_map (ranges xs)) < 2 ^ 32 → placing xs size ≡ placed_at (lowest_base size (memory_map (ranges xs)))
    unfolding placing place_rules run after_ranges
    found h =
        rw (
          passes ((blocks xs).number ≡? 0) a.listed,
          passes (all_end (ranges xs)) a.fit,
          passes (length (ranges xs) ≤? 128) a.few,
          passes (1 ≤? size and size ≤? 16777216) (a.some, a.most),
          passes (lowest_base size (memory_map (ranges xs)) + 1 ≤? 2 ^ 32) (omega arith),
        )

    missed : (lowest_base size (memory_map (ranges xs)) < 2 ^ 32 → ⊥) → placing xs size ≡ refused_place 37 0
    unfolding placing place_rules run after_ranges
    missed h =
        rw (
          passes ((blocks xs).number ≡? 0) a.listed,
          passes (all_end (ranges xs)) a.fit,
          passes (length (ranges xs) ≤? 128) a.few,
          passes (1 ≤? size and size ≤? 16777216) (a.some, a.most),
          fails (lowest_base size (memory_map (ranges xs)) + 1 ≤? 2 ^ 32) (λ z. h (omega arith)),
        )

    whole : Runs (Free (ranges xs)) 0 (memory_map (ranges xs))
    unfolding memory_map
    whole = map_runs (ranges xs) a.fit 0 (inl refl)

module _ (xs : List ℕ) (size : ℕ) (r : Placed) (call : Places xs size r) where
  pub placed : r.number ≡ 0 → Best xs size r.base
  placed ok =
      let a = asked xs size (rw call at ok) in
      let l = memory_map (ranges xs) in
      let b = lowest_base size l in
      elim (dec_lt b (2 ^ 32)) [
        | yes h ↦ let e : r ≡ placed_at b = call ∙ found xs size a h in
            let m = right (Free (ranges xs)) size a.some l 0 (whole xs size a) h in
            rw e
            (record {
              lies = m.0;
              in_map = m.1;
              none_lower = λ c k w. omega (arith, least (Free (ranges xs)) size a.some l 0 (whole xs size a) c (omega arith) w);
            })
        | no h ↦ let e : r ≡ refused_place 37 0 = call ∙ missed xs size a h in
            let z : r.number ≡ 37 = ap (λ (p : Placed). p.number) e in
            absurd (omega arith)
      ]

  -- where 30 to 36 don't refuse: 37 exactly where no base will do
  module _ (a : Asked xs size) where
    pub no_place : r.number ≡ 37 → (b : ℕ) → Lies (Free (ranges xs)) size b → ⊥
    no_place is b w =
        let l = memory_map (ranges xs) in
        let low = least (Free (ranges xs)) size a.some l 0 (whole xs size a) b (omega arith) w in
        let h : lowest_base size l < 2 ^ 32 = omega (arith, w.legal.1, a.some) in
        let e : r.number ≡ 0 = ap (λ (p : Placed). p.number) (call ∙ found xs size a h) in
        omega arith

    pub refused_only : ((b : ℕ) → Lies (Free (ranges xs)) size b → ⊥) → r.number ≡ 37
    refused_only none =
        let l = memory_map (ranges xs) in
        ap (λ (p : Placed). p.number)
        (call ∙ missed xs size a (λ h. none (lowest_base size l) (right (Free (ranges xs)) size a.some l 0 (whole xs size a) h).0))
