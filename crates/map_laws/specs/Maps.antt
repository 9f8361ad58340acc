-- Request #111's claims of the map: every byte of it is free, every free byte is in it, no run is empty, they ascend and none touches
-- another, and only one list is so; it never has more than 128 runs; where each stands in the buffer, and that all else is kept.
-- Assumes nothing.
use Rattle.std.specs.Prelude.{ℕ, zero, suc, ◌+◌, ◌*◌, ◌^◌, ◌%◌, ◌≤◌, ◌<◌, cond, List, [], ◌∷◌, ◌≡◌, refl, length, get_or}
use Rattle.std.proofs.Common.{inl, inr, sym, ◌∙◌, arith, mod-eq_of_lt}
use Rattle.std.proofs.Math.Path.{ap}
use Rattle.std.proofs.Math.Decide.{dec_lt}
use Rattle.facts.specs.Fact.{◌≤?◌, ◌≡?◌, test, Holds}
use Rattle.facts.specs.FactLaws.{passes, fails}
use Rattle.facts.specs.Rules.{answer, rule, run}
use Rattle.facts.specs.RulesLaws.{by_test}
use Rattle.words.specs.Le.{le}
use Rattle.words.specs.Put.{put_all}
use Rattle.words.specs.PutLaws.{le_put_all, put_all_above, length_put_all}
use Rattle.handoff_list.specs.Blocks.{blocks}
use Rattle.map_ranges.specs.declared.Range.{Range}
use Rattle.map_ranges.specs.Ranges.{ranges, all_end, after_ranges}
use Rattle.map_ranges.specs.RangesLaws.{after_ranges_lem, list_refused, end_refused, many_refused}
use Rattle.map_free.specs.Free.{Free, Span, span, map_from, memory_map}
use Rattle.map_free.specs.Runs.{Run, Runs, runs_one}
use Rattle.map_free.specs.FreeLaws.{decide, free_top, map_runs, map_few}
use Rattle.map_list.specs.declared.Mapped.{Mapped}
use Rattle.map_list.specs.Map.{refused_map, mapped_to, mapping, numbers, map_in, Maps}
use Rattle.map_laws.specs.Claims.{nth, Within, IsMap}

-- ---- the same from a place on

record MapFrom (F : ℕ → Type 0) (at : ℕ) (l : List Span) : Type 0 where
  low : (i : ℕ) → i < length l → at ≤ (nth l i).first
  free : (i : ℕ) → i < length l → (y : ℕ) → Within y (nth l i) → F y
  all : (y : ℕ) → at ≤ y → F y → (i : ℕ) × (i < length l) × Within y (nth l i)
  some : (i : ℕ) → i < length l → (nth l i).first ≤ (nth l i).last
  apart : (i j : ℕ) → i < j → j < length l → (nth l i).last + 1 < (nth l j).first

module _ (F : ℕ → Type 0) where
  runs_low : (l : List Span) (at : ℕ) → Runs F at l → (i : ℕ) → i < length l → at ≤ (nth l i).first
  runs_low [] at r i h = absurd (omega arith)
  runs_low (s ∷ l) at r zero h = r.0.from
  runs_low (s ∷ l) at r (suc i) h = omega (arith, runs_low l (s.last + 1) r.1 i (omega arith), r.0.from, r.0.some)

  runs_free : (l : List Span) (at : ℕ) → Runs F at l → (i : ℕ) → i < length l → (y : ℕ) → Within y (nth l i) → F y
  runs_free [] at r i h = absurd (omega arith)
  runs_free (s ∷ l) at r zero h = λ y w. r.0.free y w.0 w.1
  runs_free (s ∷ l) at r (suc i) h = runs_free l (s.last + 1) r.1 i (omega arith)

  runs_some : (l : List Span) (at : ℕ) → Runs F at l → (i : ℕ) → i < length l → (nth l i).first ≤ (nth l i).last
  runs_some [] at r i h = absurd (omega arith)
  runs_some (s ∷ l) at r zero h = r.0.some
  runs_some (s ∷ l) at r (suc i) h = runs_some l (s.last + 1) r.1 i (omega arith)

  runs_all : (l : List Span) (at : ℕ) → Runs F at l → (y : ℕ) → at ≤ y → F y → (i : ℕ) × (i < length l) × Within y (nth l i)
  runs_all [] at r y h f = absurd (r y h f)
  runs_all (s ∷ l) at r y h f =
      elim (dec_lt y s.first) [
        | yes g ↦ absurd (r.0.gap y h g f)
        | no g ↦ elim (dec_lt s.last y) [
          | yes k ↦ let m = runs_all l (s.last + 1) r.1 y (omega arith) f in (suc m.0, omega (arith, m.1), m.2)
          | no k ↦ (zero, omega arith, (omega arith, omega arith))
        ]
      ]

  runs_apart : (l : List Span) (at : ℕ) → Runs F at l → (i j : ℕ) → i < j → j < length l → (nth l i).last + 1 < (nth l j).first
  runs_apart [] at r i j h k = absurd (omega arith)
  runs_apart (s ∷ l) at r i zero h k = absurd (omega arith)
  runs_apart (s ∷ l) at r zero (suc j) h k =
      let low = runs_low l (s.last + 1) r.1 j (omega arith) in
      elim (dec_lt (s.last + 1) (nth l j).first) [
        | yes g ↦ g
        | no g ↦ let e : (nth l j).first ≡ s.last + 1 = omega arith in
            let f = runs_free l (s.last + 1) r.1 j (omega arith) (nth l j).first (omega arith, runs_some l (s.last + 1) r.1 j (omega arith)) in
            absurd (r.0.over (rw e at f))
      ]
  runs_apart (s ∷ l) at r (suc i) (suc j) h k = runs_apart l (s.last + 1) r.1 i j (omega arith) (omega arith)

  -- what is so is the list of the maximal runs
  to_runs : (l : List Span) (at : ℕ) → MapFrom F at l → Runs F at l
  to_runs [] at m = λ y h f. absurd (omega (arith, (m.all y h f).1))
  to_runs (s ∷ l) at m = (
    record {
      from = m.low 0 (omega arith);
      some = m.some 0 (omega arith);
      gap = λ y h k f. before y k (m.all y h f);
      free = λ y h k. m.free 0 (omega arith) y (h, k);
      over = λ f. behind (m.all (s.last + 1) (omega (arith, m.low 0 (omega arith), m.some 0 (omega arith))) f);
    },
    to_runs l (s.last + 1)
        (record {
          low = λ i h. omega (arith, m.apart 0 (suc i) (omega arith) (omega arith));
          free = λ i h. m.free (suc i) (omega arith);
          all = λ y h f.
              rest y h (m.all y (omega (arith, m.low 0 (omega arith), m.some 0 (omega arith))) f);
          some = λ i h. m.some (suc i) (omega arith);
          apart = λ i j h k. m.apart (suc i) (suc j) (omega arith) (omega arith);
        }),
  )
    where
      before : (y : ℕ) → y < s.first → (i : ℕ) × (i < suc (length l)) × Within y (nth (s ∷ l) i) → ⊥
      before y k (zero, h, w) = omega (arith, w.0)
      before y k (suc i, h, w) = omega (arith, w.0, m.apart 0 (suc i) (omega arith) h, m.some 0 (omega arith))

      behind : (i : ℕ) × (i < suc (length l)) × Within (s.last + 1) (nth (s ∷ l) i) → ⊥
      behind (zero, h, w) = omega (arith, w.1)
      behind (suc i, h, w) = omega (arith, w.0, m.apart 0 (suc i) (omega arith) h)

      rest : (y : ℕ) → s.last + 1 ≤ y → (i : ℕ) × (i < suc (length l)) × Within y (nth (s ∷ l) i) → (i : ℕ) × (i < length l) × Within y (nth l i)
      rest y k (zero, h, w) = absurd (omega (arith, w.1))
      rest y k (suc i, h, w) = (i, omega arith, w)

  -- only one list is the map
  pub only_map : (l m : List Span) → IsMap F l → IsMap F m → l ≡ m
  only_map l m a b = runs_one F 0 l m (to_runs l 0 (whole l a)) (to_runs m 0 (whole m b))
    where
      whole : (l : List Span) → IsMap F l → MapFrom F 0 l
      whole l a = record { low = λ i h. omega arith; free = a.free; all = λ y h f. a.all y f; some = a.some; apart = a.apart }

  is_map : (l : List Span) → Runs F 0 l → IsMap F l
  is_map l r =
      record {
        free = runs_free l 0 r;
        all = λ y f. runs_all l 0 r y (omega arith) f;
        some = runs_some l 0 r;
        apart = runs_apart l 0 r;
      }

-- the map of ranges that all end
pub map_is : (rs : List Range) → Holds (all_end rs) → IsMap (Free rs) (memory_map rs)
unfolding memory_map
map_is rs fit = is_map (Free rs) (memory_map rs) (map_runs rs fit 0 (inl refl))

-- ---- the call

-- what has passed where the call isn't refused
pub record Passes (xs : List ℕ) (room : ℕ) (r : Mapped) : Type 0 where
  pub listed : (blocks xs).number ≡ 0
  pub fit : Holds (all_end (ranges xs))
  pub few : length (ranges xs) ≤ 128
  pub roomy : 2048 ≤ room
  pub is : r ≡ mapped_to (memory_map (ranges xs))

pub passes_all : (xs : List ℕ) (room : ℕ) → (mapping xs room).number ≡ 0 → Passes xs room (mapping xs room)
unfolding mapping run after_ranges
passes_all xs room =
    by_test P (2048 ≤? room) _ _
    (λ roomy. by_test P ((blocks xs).number ≡? 0) _ _
    (λ listed. by_test P (all_end (ranges xs)) _ _
    (λ fit. by_test P (length (ranges xs) ≤? 128) _ _
    (λ few e. record { listed = listed; fit = fit; few = few; roomy = roomy; is = refl })
    (λ _ e. absurd (omega arith)))
    (λ _ e. absurd (omega arith)))
    (λ isnt e. absurd (isnt e)))
    (λ _ e. absurd (omega arith))
  where
    P : Mapped → Type 0
    P r = r.number ≡ 0 → Passes xs room r

-- the numbers of the runs
length_numbers : (l : List Span) → length (numbers l) ≡ 2 * length l
unfolding numbers
length_numbers [] = refl
length_numbers (s ∷ l) = omega (arith, length_numbers l)

number_first : (l : List Span) (i : ℕ) → i < length l → get_or (numbers l) (2 * i) 0 ≡ (nth l i).first
unfolding numbers
number_first [] i h = absurd (omega arith)
number_first (s ∷ l) zero h = refl
number_first (s ∷ l) (suc i) h = let e : 2 * suc i ≡ suc (suc (2 * i)) = omega arith in rw e (number_first l i (omega arith))

number_last : (l : List Span) (i : ℕ) → i < length l → get_or (numbers l) (2 * i + 1) 0 ≡ (nth l i).last
unfolding numbers
number_last [] i h = absurd (omega arith)
number_last (s ∷ l) zero h = refl
number_last (s ∷ l) (suc i) h = let e : 2 * suc i + 1 ≡ suc (suc (2 * i + 1)) = omega arith in rw e (number_last l i (omega arith))

no_count : (xs : List ℕ) (room : ℕ) → ((mapping xs room).number ≡ 0 → ⊥) → (mapping xs room).count ≡ 0
unfolding mapping run after_ranges
no_count xs room =
    by_test P (2048 ≤? room) _ _
    (λ _. by_test P ((blocks xs).number ≡? 0) _ _
    (λ _. by_test P (all_end (ranges xs)) _ _ (λ _. by_test P (length (ranges xs) ≤? 128) _ _ (λ _ z. absurd (z refl)) (λ _ _. refl)) (λ _ _. refl))
    (λ _ _. refl)) (λ _ _. refl)
  where
    P : Mapped → Type 0
    P r = (r.number ≡ 0 → ⊥) → r.count ≡ 0

module _ (xs out : List ℕ) (r : Mapped) (after : List ℕ) (call : Maps xs out r after) where
  module _ (ok : r.number ≡ 0) where
    passed : Passes xs (length out) (mapping xs (length out))
    passed = passes_all xs (length out) (rw call.0 at ok)

    -- the runs are the map of the free bytes of the list
    pub mapped : IsMap (Free (ranges xs)) (memory_map (ranges xs))
    mapped = map_is (ranges xs) passed.fit

    pub count_is : r.count ≡ length (memory_map (ranges xs))
    count_is = ap (λ (m : Mapped). m.count) (call.0 ∙ passed.is)

    -- they are never more than 128
    pub never_more : r.count ≤ 128
    unfolding memory_map
    never_more = omega (arith, count_is, map_few (ranges xs) 0, passed.few)

    after_is : after ≡ put_all 8 out 0 (numbers (memory_map (ranges xs)))
    unfolding map_in
    after_is = rw (passes ((mapping xs (length out)).number ≡? 0) (rw call.0 at ok)) at call.1

    fits : 0 + 8 * length (numbers (memory_map (ranges xs))) ≤ length out
    fits = omega (arith, length_numbers (memory_map (ranges xs)), count_is, never_more, passed.roomy)

    small : (i : ℕ) → i < r.count → (nth (memory_map (ranges xs)) i).last < 256 ^ 8
    small i h =
        let l = memory_map (ranges xs) in
        let k : i < length l = omega (arith, count_is) in
        free_top (ranges xs) passed.fit (nth l i).last (mapped.free i k (nth l i).last (mapped.some i k, omega arith))

    -- run i stands in the 16 bytes from 16 i on: its first byte's place, then its last byte's
    pub stands_first : (i : ℕ) → i < r.count → le 8 after (16 * i) ≡ (nth (memory_map (ranges xs)) i).first
    stands_first i h =
        let l = memory_map (ranges xs) in
        let k : i < length l = omega (arith, count_is) in
        let e : 0 + 8 * (2 * i) ≡ 16 * i = omega arith in
        let low : (nth l i).first < 256 ^ 8 = omega (arith, small i h, mapped.some i k) in
        rw (after_is, ← e)
        (le_put_all 8 out 0 (numbers l) (2 * i) fits (omega (arith, length_numbers l))
        ∙ (ap (λ (w : ℕ). w % 256 ^ 8) (number_first l i k) ∙ mod-eq_of_lt low))

    pub stands_last : (i : ℕ) → i < r.count → le 8 after (16 * i + 8) ≡ (nth (memory_map (ranges xs)) i).last
    stands_last i h =
        let l = memory_map (ranges xs) in
        let k : i < length l = omega (arith, count_is) in
        let e : 0 + 8 * (2 * i + 1) ≡ 16 * i + 8 = omega arith in
        rw (after_is, ← e)
        (le_put_all 8 out 0 (numbers l) (2 * i + 1) fits (omega (arith, length_numbers l))
        ∙ (ap (λ (w : ℕ). w % 256 ^ 8) (number_last l i k) ∙ mod-eq_of_lt (small i h)))

    -- what the buffer held after the runs is kept
    pub kept_after : (i : ℕ) → 16 * r.count ≤ i → get_or after i 0 ≡ get_or out i 0
    kept_after i h =
        let l = memory_map (ranges xs) in
        rw after_is (put_all_above 8 out 0 (numbers l) i (omega (arith, length_numbers l, count_is)))

  -- a refusal keeps all of it, and counts no runs
  pub refused_keeps : (r.number ≡ 0 → ⊥) → (after ≡ out) × (r.count ≡ 0)
  unfolding map_in
  refused_keeps isnt =
      let no : (mapping xs (length out)).number ≡ 0 → ⊥ = λ z. isnt (ap (λ (m : Mapped). m.number) call.0 ∙ z) in (
        rw (fails ((mapping xs (length out)).number ≡? 0) no) at call.1,
        ap (λ (m : Mapped). m.count) call.0 ∙ no_count xs (length out) no,
      )
