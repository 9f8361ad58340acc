-- The map of a list of ranges whose ends fit is the list of the maximal runs of free bytes.
-- Assumes nothing.
use Prim.Native.Nat.{ℕ, zero, suc, ◌+◌, ◌-◌, ◌^◌, min, ◌≤◌, ◌<◌}
use Rattle.std.specs.Prelude.{Bool, true, false, cond, ◌⊎◌, ◌≡◌, length}
use mathlib.Core.List.{List, [], ◌∷◌}
use Rattle.std.proofs.Math.Logic.{inl, inr}
use Rattle.std.proofs.Math.Path.{refl}
use Rattle.std.proofs.Common.{sym, subst, ◌∙◌}
use native.Mathlib.Omega.{arith}
use Rattle.std.proofs.Math.Decide.{dec_lt}
use Rattle.facts.specs.Fact.{Fact, ◌≤?◌, ◌≡?◌, deny, ◌and◌, test, Holds, Says}
use Rattle.facts.specs.FactLaws.{says, passes, fails}
use Rattle.facts.specs.RulesLaws.{by_test}
use Rattle.map_ranges.specs.declared.Range.{Range}
use Rattle.map_ranges.specs.Ranges.{all_end}
use Rattle.map_free.specs.Free.{Free, held, free_byte, Span, span, begin, stop, lowest, next_free, next_taken, spans_from, map_from}
use Rattle.map_free.specs.Runs.{Run, Runs, runs_one}

pub decide : (p : Fact) → Holds p ⊎ (Holds p → ⊥)
decide p = go (test p) (says p)
  where
    go : (b : Bool) → Says b (Holds p) → Holds p ⊎ (Holds p → ⊥)
    go true h = inl h
    go false h = inr h

-- v is an edge of some range
abbrev Among : (Range → ℕ) → ℕ → List Range → Type 0
Among edge v [] = ⊥
Among edge v (r ∷ rs) = (edge r ≡ v) ⊎ Among edge v rs

-- ---- the lowest

module _ (edge : Range → ℕ) (p : ℕ → Fact) where
  lowest_most : (rs : List Range) → lowest edge p rs ≤ 2 ^ 64
  unfolding lowest
  lowest_most [] = omega arith
  lowest_most (r ∷ rs) =
      let m = lowest_most rs in
      by_test (λ (v : ℕ). v ≤ 2 ^ 64) (p (edge r)) _ _ (λ _. omega arith) (λ _. m)

  lowest_lower : (rs : List Range) (v : ℕ) → Among edge v rs → Holds (p v) → lowest edge p rs ≤ v
  unfolding lowest
  lowest_lower [] v a h = absurd a
  lowest_lower (r ∷ rs) v (inl e) h =
      let is : Holds (p (edge r)) = rw e h in rw (passes (p (edge r)) is) (omega arith)
  lowest_lower (r ∷ rs) v (inr a) h =
      let m = lowest_lower rs v a h in
      by_test (λ (w : ℕ). w ≤ v) (p (edge r)) _ _ (λ _. omega arith) (λ _. m)

  lowest_found : (rs : List Range) → lowest edge p rs < 2 ^ 64 → Among edge (lowest edge p rs) rs × Holds (p (lowest edge p rs))
  unfolding lowest
  lowest_found [] h = absurd (omega arith)
  lowest_found (r ∷ rs) h =
      by_test (λ (v : ℕ). v < 2 ^ 64 → Among edge v (r ∷ rs) × Holds (p v)) (p (edge r)) _ _ (λ is. least is (lowest_found rs))
      (λ _ l. let f = lowest_found rs l in (inr f.0, f.1)) h
    where
      least : Holds (p (edge r)) → (lowest edge p rs < 2 ^ 64 → Among edge (lowest edge p rs) rs × Holds (p (lowest edge p rs)))
          → min (edge r) (lowest edge p rs) < 2 ^ 64
          → Among edge (min (edge r) (lowest edge p rs)) (r ∷ rs) × Holds (p (min (edge r) (lowest edge p rs)))
      least h rest l =
          elim (dec_lt (lowest edge p rs) (edge r)) [
            | yes g ↦ let e : min (edge r) (lowest edge p rs) ≡ lowest edge p rs = omega arith in
                let f = rest (omega arith) in
                subst (λ (v : ℕ). Among edge v (r ∷ rs) × Holds (p v)) (sym e) (inr f.0, f.1)
            | no g ↦ let e : min (edge r) (lowest edge p rs) ≡ edge r = omega arith in
                subst (λ (v : ℕ). Among edge v (r ∷ rs) × Holds (p v)) (sym e) (inl refl, h)
          ]

-- ---- how many edges are at a place or above it

unfoldable above : (Range → ℕ) → ℕ → List Range → ℕ
above edge at [] = 0
above edge at (r ∷ rs) = cond (test (at ≤? edge r)) 1 0 + above edge at rs

above_most : (edge : Range → ℕ) (at : ℕ) (rs : List Range) → above edge at rs ≤ length rs
unfolding above
above_most edge at [] = omega arith
above_most edge at (r ∷ rs) =
    let m = above_most edge at rs in
    by_test (λ (v : ℕ). v + above edge at rs ≤ suc (length rs)) (at ≤? edge r) _ _ (λ _. omega arith) (λ _. omega arith)

one_more : (at up : ℕ) (v : ℕ) → at ≤ up → cond (test (up ≤? v)) 1 0 ≤ cond (test (at ≤? v)) 1 0
one_more at up v h =
    by_test (λ (a : ℕ). a ≤ cond (test (at ≤? v)) 1 0) (up ≤? v) _ _
    (λ l. let e : at ≤ v = omega arith in rw (passes (at ≤? v) e) (omega arith)) (λ _. omega arith)

above_less : (edge : Range → ℕ) (at up : ℕ) (rs : List Range) → at ≤ up → above edge up rs ≤ above edge at rs
unfolding above
above_less edge at up [] h = omega arith
above_less edge at up (r ∷ rs) h = omega (arith, above_less edge at up rs h, one_more at up (edge r) h)

above_falls : (edge : Range → ℕ) (at up v : ℕ) (rs : List Range) → Among edge v rs → at ≤ v → v < up
    → above edge up rs + 1 ≤ above edge at rs
unfolding above
above_falls edge at up v [] a h l = absurd a
above_falls edge at up v (r ∷ rs) (inl e) h l =
    rw (passes (at ≤? edge r) (omega arith), fails (up ≤? edge r) (λ z. omega arith)) (omega (arith, above_less edge at up rs (omega arith)))
above_falls edge at up v (r ∷ rs) (inr a) h l =
    omega (arith, above_falls edge at up v rs a h l, one_more at up (edge r) (omega arith))

-- ---- where free bytes begin and stop

-- a byte that lies in a range of a type: the one before it does too, or the range starts with it
come : (k : ℕ) (edge : Range → ℕ) → ((r : Range) → r.code ≡ k → edge r ≡ r.start) → (rs : List Range) (y : ℕ)
    → Holds (held k rs (suc y)) → Among edge (suc y) rs ⊎ Holds (held k rs y)
come k edge is [] y h = absurd (omega arith)
come k edge is (r ∷ rs) y (inl (c, (a, b))) =
    elim (dec_lt y r.start) [
      | yes g ↦ inl (inl (is r c ∙ omega arith))
      | no g ↦ inr (inl (c, (omega arith, omega arith)))
    ]
come k edge is (r ∷ rs) y (inr h) = elim (come k edge is rs y h) [ inl x ↦ inl (inr x) | inr x ↦ inr (inr x) ]

-- the one after it does too, or the range ends there
gone : (k : ℕ) (edge : Range → ℕ) → ((r : Range) → r.code ≡ k → edge r ≡ r.start + r.size) → (rs : List Range) (y : ℕ)
    → Holds (held k rs y) → Among edge (suc y) rs ⊎ Holds (held k rs (suc y))
gone k edge is [] y h = absurd (omega arith)
gone k edge is (r ∷ rs) y (inl (c, (a, b))) =
    elim (dec_lt (suc y) (r.start + r.size)) [
      | yes g ↦ inr (inl (c, (omega arith, omega arith)))
      | no g ↦ inl (inl (is r c ∙ omega arith))
    ]
gone k edge is (r ∷ rs) y (inr h) = elim (gone k edge is rs y h) [ inl x ↦ inl (inr x) | inr x ↦ inr (inr x) ]

-- one at 0 starts a range
come_zero : (k : ℕ) (edge : Range → ℕ) → ((r : Range) → r.code ≡ k → edge r ≡ r.start) → (rs : List Range)
    → Holds (held k rs 0) → Among edge 0 rs
come_zero k edge is [] h = absurd (omega arith)
come_zero k edge is (r ∷ rs) (inl (c, (a, b))) = inl (is r c ∙ omega arith)
come_zero k edge is (r ∷ rs) (inr h) = inr (come_zero k edge is rs h)

begin_memory : (r : Range) → r.code ≡ 0 → begin r ≡ r.start
begin_memory r e = rw (passes (r.code ≡? 0) e)

begin_reserved : (r : Range) → r.code ≡ 5 → begin r ≡ r.start + r.size
begin_reserved r e = rw (fails (r.code ≡? 0) (λ z. omega arith))

stop_memory : (r : Range) → r.code ≡ 0 → stop r ≡ r.start + r.size
stop_memory r e = rw (passes (r.code ≡? 0) e)

stop_reserved : (r : Range) → r.code ≡ 5 → stop r ≡ r.start
stop_reserved r e = rw (fails (r.code ≡? 0) (λ z. omega arith))

module _ (rs : List Range) where
  begins : (y : ℕ) → Free rs (suc y) → (Free rs y → ⊥) → Among begin (suc y) rs
  begins y h isnt =
      elim (come 0 begin begin_memory rs y h.0) [
        | inl x ↦ x
        | inr m ↦ elim (decide (held 5 rs y)) [
          | inl t ↦ elim (gone 5 begin begin_reserved rs y t) [ inl x ↦ x | inr u ↦ absurd (h.1 u) ]
          | inr t ↦ absurd (isnt (m, t))
        ]
      ]

  stops : (y : ℕ) → Free rs y → (Free rs (suc y) → ⊥) → Among stop (suc y) rs
  stops y h isnt =
      elim (gone 0 stop stop_memory rs y h.0) [
        | inl x ↦ x
        | inr m ↦ elim (decide (held 5 rs (suc y))) [
          | inl t ↦ elim (come 5 stop stop_reserved rs y t) [ inl x ↦ x | inr u ↦ absurd (h.1 u) ]
          | inr t ↦ absurd (isnt (m, t))
        ]
      ]

  -- no run goes through `at`
  abbrev pub Clean : ℕ → Type 0
  Clean at = (at ≡ 0) ⊎ (Free rs at → ⊥)

  -- back from a free byte to where its run begins
  back : (at : ℕ) → Clean at → (y : ℕ) → at ≤ y → Free rs y
      → (c : ℕ) × (at ≤ c) × (c ≤ y) × Free rs c × Among begin c rs
  back at clean zero h f =
      elim clean [
        | inl e ↦ (zero, omega arith, omega arith, f, come_zero 0 begin begin_memory rs f.0)
        | inr isnt ↦ let e : at ≡ 0 = omega arith in absurd (isnt (rw e f))
      ]
  back at clean (suc y) h f =
      elim (decide (free_byte rs y)) [
        | inl g ↦ elim (dec_lt y at) [
          | yes l ↦ let e : at ≡ suc y = omega arith in
              elim clean [ inl z ↦ absurd (omega arith) | inr isnt ↦ absurd (isnt (rw e f)) ]
          | no l ↦ let b = back at clean y (omega arith) g in (b.0, b.1, omega (arith, b.2), b.3, b.4)
        ]
        | inr g ↦ (suc y, h, omega arith, f, begins y f g)
      ]

  -- on from a free byte to where its run stops
  ahead : (first : ℕ) → Free rs first → (y : ℕ) → first ≤ y → (Free rs y → ⊥)
      → (c : ℕ) × (first ≤ c) × (c ≤ y) × (Free rs c → ⊥) × Among stop c rs
  ahead first f zero h isnt = let e : first ≡ 0 = omega arith in absurd (isnt (rw e at f))
  ahead first f (suc y) h isnt =
      elim (dec_lt y first) [
        | yes l ↦ let e : first ≡ suc y = omega arith in absurd (isnt (rw e at f))
        | no l ↦ elim (decide (free_byte rs y)) [
          | inl g ↦ (suc y, h, omega arith, isnt, stops y g isnt)
          | inr g ↦ let a = ahead first f y (omega arith) g in (a.0, a.1, omega (arith, a.2), a.3, a.4)
        ]
      ]

held_top : (k : ℕ) (rs : List Range) → Holds (all_end rs) → (y : ℕ) → Holds (held k rs y) → y < 2 ^ 64
held_top k [] fit y h = absurd (omega arith)
held_top k (r ∷ rs) fit y (inl (c, (a, b))) = omega (arith, fit.0)
held_top k (r ∷ rs) fit y (inr h) = held_top k rs fit.1 y h

module _ (rs : List Range) (fit : Holds (all_end rs)) where
  pub free_top : (y : ℕ) → Free rs y → y < 2 ^ 64
  free_top y f = held_top 0 rs fit y f.0

  module _ (at : ℕ) (clean : Clean rs at) where
    next_gap : (y : ℕ) → at ≤ y → y < next_free rs at → Free rs y → ⊥
    unfolding next_free
    next_gap y h l f =
        let b = back rs at clean y h f in
        omega (arith, lowest_lower begin (λ x. at ≤? x and free_byte rs x) rs b.0 b.4 (b.1, b.3), b.2)

    next_found : next_free rs at < 2 ^ 64 → Among begin (next_free rs at) rs × ((at ≤ next_free rs at) × Free rs (next_free rs at))
    unfolding next_free
    next_found l = lowest_found begin (λ x. at ≤? x and free_byte rs x) rs l

    next_none : (next_free rs at < 2 ^ 64 → ⊥) → (y : ℕ) → at ≤ y → Free rs y → ⊥
    next_none isnt y h f = let t = free_top y f in next_gap y h (elim (dec_lt (next_free rs at) (2 ^ 64)) [ yes l ↦ absurd (isnt l) | no l ↦ omega arith ]) f

  module _ (first : ℕ) (f : Free rs first) where
    taken_isnt : Free rs (next_taken rs first) → ⊥
    unfolding next_taken
    taken_isnt g =
        let p : ℕ → Fact = λ x. first ≤? x and deny (free_byte rs x) in
        (lowest_found stop p rs (free_top _ g)).1.1 g

    taken_from : first ≤ next_taken rs first
    unfolding next_taken
    taken_from =
        let p : ℕ → Fact = λ x. first ≤? x and deny (free_byte rs x) in
        elim (dec_lt (lowest stop p rs) (2 ^ 64)) [
          | yes l ↦ (lowest_found stop p rs l).1.0
          | no l ↦ omega (arith, free_top first f)
        ]

    taken_past : first < next_taken rs first
    taken_past =
        elim (dec_lt first (next_taken rs first)) [
          | yes l ↦ l
          | no l ↦ let e : first ≡ next_taken rs first = omega (arith, taken_from) in absurd (taken_isnt (rw e at f))
        ]

    taken_free : (y : ℕ) → first ≤ y → y < next_taken rs first → Free rs y
    unfolding next_taken
    taken_free y h l =
        let p : ℕ → Fact = λ x. first ≤? x and deny (free_byte rs x) in
        elim (decide (free_byte rs y)) [
          | inl g ↦ g
          | inr g ↦ let a = ahead rs first f y h g in absurd (omega (arith, lowest_lower stop p rs a.0 a.4 (a.1, a.3), a.2))
        ]

  run_here : (at : ℕ) → Clean rs at → next_free rs at < 2 ^ 64 → Run (Free rs) at (span (next_free rs at) (next_taken rs (next_free rs at) - 1))
  run_here at clean l =
      let n = next_found at clean l in
      let f = n.1.1 in
      let first = next_free rs at in
      let past = taken_past first f in
      let s : next_taken rs first - 1 + 1 ≡ next_taken rs first = omega arith in
      record {
        from = n.1.0;
        some = omega arith;
        gap = next_gap at clean;
        free = λ y h k. taken_free first f y h (omega arith);
        over = λ g. taken_isnt first f (rw s at g);
      }

  -- as many turns as there are edges left are enough
  runs : (k at : ℕ) → Clean rs at → above begin at rs ≤ k → Runs (Free rs) at (spans_from k rs at)
  unfolding spans_from
  runs zero at clean few = λ y h f.
      let b = back rs at clean y h f in omega (arith, above_falls begin at (suc b.0) b.0 rs b.4 b.1 (omega arith))
  runs (suc k) at clean few =
      let first = next_free rs at in
      let past = next_taken rs first in
      by_test (λ (l : List Span). Runs (Free rs) at l) (first + 1 ≤? 2 ^ 64) _ _
      (λ l.
      let n = next_found at clean (omega arith) in
      let p = taken_past first n.1.1 in
      let s : past - 1 + 1 ≡ past = omega arith in (
        run_here at clean (omega arith),
        rw s
            (runs k past (inr (taken_isnt first n.1.1))
            (omega (arith, above_falls begin at past first rs n.0 n.1.0 p))),
      ))
      (λ isnt. next_none at clean (λ l. isnt (omega arith)))

  pub map_runs : (at : ℕ) → Clean rs at → Runs (Free rs) at (map_from rs at)
  unfolding map_from
  map_runs at clean = runs (length rs) at clean (above_most begin at rs)

  -- the map a run at a time
  pub map_next : (at : ℕ) → Clean rs at → (s : Span) → Run (Free rs) at s → map_from rs at ≡ s ∷ map_from rs (s.last + 1)
  map_next at clean s r =
      runs_one (Free rs) at (map_from rs at) (s ∷ map_from rs (s.last + 1)) (map_runs at clean) (r, map_runs (s.last + 1) (inr r.over))

  pub map_none : (at : ℕ) → Clean rs at → ((y : ℕ) → at ≤ y → Free rs y → ⊥) → map_from rs at ≡ []
  map_none at clean none = runs_one (Free rs) at (map_from rs at) [] (map_runs at clean) none

spans_few : (k : ℕ) (rs : List Range) (at : ℕ) → length (spans_from k rs at) ≤ k
unfolding spans_from
spans_few zero rs at = omega arith
spans_few (suc k) rs at =
    let m = spans_few k rs (next_taken rs (next_free rs at)) in
    by_test (λ (l : List Span). length l ≤ suc k) (next_free rs at + 1 ≤? 2 ^ 64) _ _ (λ _. omega arith) (λ _. omega arith)

-- there are no more runs than ranges
pub map_few : (rs : List Range) (at : ℕ) → length (map_from rs at) ≤ length rs
unfolding map_from
map_few rs at = spans_few (length rs) rs at

-- past the last of all bytes there is nothing
pub none_above : (rs : List Range) → Holds (all_end rs) → (last : ℕ) → last ≡ 18446744073709551615 → (y : ℕ) → last + 1 ≤ y → Free rs y → ⊥
none_above rs fit last e y h f = omega (arith, free_top rs fit y f)
