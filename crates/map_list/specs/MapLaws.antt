-- The walk that writes the map, and the call case by case.
-- Assumes nothing.
use Rattle.std.specs.Prelude.{ℕ, ◌+◌, ◌*◌, ◌≤◌, ◌<◌, List, ◌∷◌, ◌≡◌, refl}
use Rattle.std.proofs.Common.{inl, ◌∙◌}
use Rattle.std.proofs.Math.Logic.{inr}
use Rattle.std.proofs.Math.Path.{sym}
use native.Mathlib.Omega.{arith}
use Rattle.std.proofs.Math.ListN.{length}
use Rattle.facts.specs.Fact.{◌≤?◌, ◌≡?◌, Holds}
use Rattle.facts.specs.FactLaws.{passes, fails}
use Rattle.facts.specs.Rules.{answer, run}
use Rattle.words.specs.Put.{put, put_all}
use Rattle.words.specs.PutLaws.{length_put}
use Rattle.map_ranges.specs.declared.Range.{Range}
use Rattle.map_ranges.specs.Ranges.{ranges, all_end}
use Rattle.map_ranges.specs.RangesLaws.{after_ranges_lem, after_refused}
use Rattle.map_ranges.specs.Gathering.{Gathered, Refused}
use Rattle.map_free.specs.Free.{Free, Span, map_from, memory_map}
use Rattle.map_free.specs.Runs.{Run}
use Rattle.map_free.specs.FreeLaws.{Clean, map_next, map_none, map_few}
use Rattle.map_list.specs.declared.Mapped.{Mapped}
use Rattle.map_list.specs.Map.{refused_map, mapped_to, mapping, numbers, map_in, Maps}

-- the walk stands at `at` with so many runs written: written and left together are the whole map
pub record Listing (rs : List Range) (first : List ℕ) (at count : ℕ) (out : List ℕ) : Type 0 where
  pub clean : Clean rs at
  pub counted : count + length (map_from rs at) ≡ length (memory_map rs)
  pub written : put_all 8 out (16 * count) (numbers (map_from rs at)) ≡ put_all 8 first 0 (numbers (memory_map rs))
  pub sized : length out ≡ length first

-- what the writer promises
pub record Written (rs : List Range) (first : List ℕ) (count : ℕ) (out : List ℕ) : Type 0 where
  pub counted : count ≡ length (memory_map rs)
  pub written : out ≡ put_all 8 first 0 (numbers (memory_map rs))

pub listing_start : (rs : List Range) (out : List ℕ) → Listing rs out 0 0 out
unfolding memory_map
listing_start rs out =
    let e : 0 + length (map_from rs 0) ≡ length (map_from rs 0) = omega arith in
    record { clean = inl refl; counted = e; written = refl; sized = refl }

module _ {rs : List Range} {first : List ℕ} {at count : ℕ} {out : List ℕ} (w : Listing rs first at count out) (fit : Holds (all_end rs)) where
  pub listing_none : ((y : ℕ) → at ≤ y → Free rs y → ⊥) → Written rs first count out
  unfolding numbers put_all
  listing_none none =
      let e = map_none rs fit at w.clean none in
      let z : count + 0 ≡ count = omega arith in
      record { counted = sym z ∙ rw e at w.counted; written = rw e at w.written }

  module _ (s : Span) (r : Run (Free rs) at s) where
    more : map_from rs at ≡ s ∷ map_from rs (s.last + 1)
    more = map_next rs fit at w.clean s r

    pub listing_room : count + 1 ≤ length rs
    unfolding memory_map
    listing_room = omega (arith, map_few rs 0, rw more at w.counted)

    pub listing_next : Listing rs first (s.last + 1) (count + 1) (put 8 (put 8 out (16 * count) s.first) (16 * count + 8) s.last)
    unfolding numbers put_all
    listing_next =
        let e : 16 * (count + 1) ≡ 16 * count + 8 + 8 = omega arith in
        record {
          clean = inr r.over;
          counted = omega (arith, rw more at w.counted);
          written = rw e (rw more at w.written);
          sized = length_put 8 (put 8 out (16 * count) s.first) (16 * count + 8) s.last ∙ (length_put 8 out (16 * count) s.first ∙ w.sized);
        }

-- ---- the call

module _ (xs out : List ℕ) where
  pub maps_short : length out < 2048 → Maps xs out (refused_map 100 0) out
  unfolding mapping map_in run
  maps_short h =
      let e = fails (2048 ≤? length out) (λ z. omega arith) in
      (rw e, rw (e, fails (100 ≡? 0) (λ z. absurd (omega arith))))

  module _ (room : 2048 ≤ length out) where
    pub maps_refused : {k : ℕ} → Refused xs k → Maps xs out (refused_map k 0) out
    unfolding mapping map_in run
    maps_refused {k} w =
        let e : mapping xs (length out) ≡ refused_map k 0 =
        rw (passes (2048 ≤? length out) room, w.number_is)
        (after_refused refused_map xs (λ rs. answer (mapped_to (memory_map rs))) (λ z. w.isnt (w.number_is ∙ z))) in
        (sym e, rw (e, fails (k ≡? 0) w.isnt))

    pub maps_written : {n : ℕ} {t : List Range} → Gathered xs n t → (rows : List Range) → memory_map rows ≡ memory_map (ranges xs)
        → (count : ℕ) (after : List ℕ) → Written rows out count after → Maps xs out (record { number = 0; count = count }) after
    unfolding mapping map_in run
    maps_written w rows same count after k =
        let e : mapping xs (length out) ≡ mapped_to (memory_map (ranges xs)) =
        rw (passes (2048 ≤? length out) room)
        (after_ranges_lem refused_map xs (λ rs. answer (mapped_to (memory_map rs))) w.goes_on w.fit (omega (arith, w.count_is, w.few))) in
        let c : count ≡ length (memory_map (ranges xs)) = rw same at k.counted in
        (rw c (sym e), rw (e, passes (0 ≡? 0) refl) (rw same at k.written))

-- any two outcomes that the promise of `map` admits are the same
pub one_map : (xs out : List ℕ) (r s : Mapped) (a b : List ℕ) → Maps xs out r a → Maps xs out s b → (r ≡ s) × (a ≡ b)
one_map xs out r s a b p q = (p.0 ∙ sym q.0, p.1 ∙ sym q.1)
