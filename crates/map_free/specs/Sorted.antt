-- The order of the ranges has no say: rows that have them in order of their starts have the same free bytes, so the same map.
-- Assumes nothing.
use Rattle.std.specs.Prelude.{ℕ, ◌+◌, ◌≤◌, Bool, true, false, not, ◌&&◌, ◌||◌, List, [], ◌∷◌, ◌≡◌, IsPermutation, refl, length, take}
use Rattle.std.proofs.Common.{inl, sym, ◌∙◌, arith, length-take-le}
use Rattle.std.proofs.lemmas.List.Sorted.{list_any-IsPermutation}
use Rattle.std.specs.List.{list_any}
use Rattle.facts.specs.Fact.{Holds, test}
use Rattle.facts.specs.FactLaws.{passes, holds}
use Rattle.map_ranges.specs.declared.Range.{Range}
use Rattle.map_ranges.specs.Ranges.{ranges, ends, all_end}
use Rattle.map_order.specs.Collect.{Collected}
use Rattle.map_free.specs.Free.{Free, held, Span, memory_map}
use Rattle.map_free.specs.Runs.{Runs, runs_one}
use Rattle.map_free.specs.FreeLaws.{map_runs}
use Rattle.map_free.specs.Look.{Table, here}

-- a byte lies in some range where some range passes, and all end where none fails
any_held : (k : ℕ) (rs : List Range) (y : ℕ) → test (held k rs y) ≡ list_any (λ r. test (here k r y)) rs
unfolding test
any_held k [] y = refl
any_held k (r ∷ rs) y = rw (any_held k rs y) refl

none_fails : (rs : List Range) → test (all_end rs) ≡ not (list_any (λ r. not (test (ends r))) rs)
unfolding test
none_fails [] = refl
none_fails (r ∷ rs) = rw (none_fails rs) (go (test (ends r)) (list_any (λ r. not (test (ends r))) rs))
  where
    go : (a b : Bool) → a && not b ≡ not (not a || b)
    go true b = refl
    go false b = refl

module _ (rs us : List Range) (same : IsPermutation rs us) where
  held_same : (k y : ℕ) → test (held k rs y) ≡ test (held k us y)
  held_same k y = any_held k rs y ∙ list_any-IsPermutation (λ r. test (here k r y)) rs us same ∙ sym (any_held k us y)

  held_there : (k y : ℕ) → Holds (held k rs y) → Holds (held k us y)
  held_there k y h = holds (held k us y) (sym (held_same k y) ∙ passes (held k rs y) h)

  held_back : (k y : ℕ) → Holds (held k us y) → Holds (held k rs y)
  held_back k y h = holds (held k rs y) (held_same k y ∙ passes (held k us y) h)

  all_there : Holds (all_end rs) → Holds (all_end us)
  all_there fit =
      holds (all_end us)
      (none_fails us
      ∙ (rw (list_any-IsPermutation (λ r. not (test (ends r))) rs us same) at (sym (none_fails rs) ∙ passes (all_end rs) fit)))

-- what has the same bytes has the same runs
runs_same : (F G : ℕ → Type 0) → ((y : ℕ) → F y → G y) → ((y : ℕ) → G y → F y) → (l : List Span) (at : ℕ) → Runs F at l → Runs G at l
runs_same F G to from [] at r = λ y h g. r y h (from y g)
runs_same F G to from (s ∷ l) at r = (
  record {
    from = r.0.from;
    some = r.0.some;
    gap = λ y a b g. r.0.gap y a b (from y g);
    free = λ y a b. to y (r.0.free y a b);
    over = λ g. r.0.over (from (s.last + 1) g);
  },
  runs_same F G to from l (s.last + 1) r.1,
)

module _ {xs : List ℕ} {n : ℕ} {u : List Range} (w : Collected xs n u) where
  abbrev rs : List Range
  rs = take n w.table

  abbrev us : List Range
  us = take n u

  fit : Holds (all_end rs)
  fit = rw w.gathered.table_is w.gathered.fit

  fits : Holds (all_end us)
  fits = all_there rs us w.same fit

  pub table_good : n ≤ length u → Table (take n u)
  table_good room = record { few = omega (arith, length-take-le n u room, w.gathered.few); fit = fits; ascend = w.ascend }

  pub map_same : memory_map (take n u) ≡ memory_map (ranges xs)
  unfolding memory_map
  map_same =
      rw (← w.gathered.table_is)
      (runs_one (Free rs) 0 (memory_map us) (memory_map rs)
      (runs_same (Free us) (Free rs)
      (λ y f. (held_back rs us w.same 0 y f.0, λ h. f.1 (held_there rs us w.same 5 y h)))
      (λ y f. (held_there rs us w.same 0 y f.0, λ h. f.1 (held_back rs us w.same 5 y h)))
      (memory_map us) 0 (map_runs us fits 0 (inl refl)))
      (map_runs rs fit 0 (inl refl)))
