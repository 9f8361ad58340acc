-- What the walk that gathers the ranges promises and keeps.
-- Assumes nothing.
use Rattle.std.specs.Prelude.{ℕ, ◌+◌, ◌*◌, ◌≤◌, ◌<◌, Bool, true, false, ◌≡◌, ◌⊎◌, refl, take, Result, MatchResult}
use Rattle.std.proofs.Common.{Ok, Err, inl, inr}
use mathlib.Core.List.{List, [], ◌∷◌, ◌++◌, append_assoc, append-nil}
use Rattle.std.proofs.Math.Path.{sym}
use Rattle.std.proofs.Common.{ap, ◌∙◌, length-append}
use native.Mathlib.Omega.{arith}
use Rattle.std.proofs.Math.ListN.{length}
use Rattle.facts.specs.Fact.{test, Holds}
use Rattle.facts.specs.FactLaws.{fails}
use Rattle.words.specs.Le.{le}
use Rattle.facts.specs.Rules.{answer, run}
use Rattle.facts.specs.RulesLaws.{by_test}
use Rattle.handoff_step.specs.Step.{type_at, stepped}
use Rattle.handoff_step.specs.StepLaws.{shows, moves}
use Rattle.handoff_step.specs.declared.Pass.{Pass}
use Rattle.handoff_step.specs.Passing.{brief, stopped, passed}
use Rattle.handoff_list.specs.Blocks.{Listing, listing, before, blocks, blocks_from}
use Rattle.handoff_list.specs.BlocksLaws.{blocks_refused, blocks_end, blocks_next}
use Rattle.map_ranges.specs.declared.Taken.{Taken}
use Rattle.map_ranges.specs.declared.Range.{Range}
use Rattle.map_ranges.specs.Ranges.{range, ends, range_of, ranges_of, ranges, all_end, ranges_number}
use Rattle.map_ranges.specs.Table.{all_append, all_left, all_right}
use Rattle.map_ranges.specs.RangesLaws.{is_range, range_here, Standing, standing, range_here_lem, after_ranges_lem, list_refused, end_refused, many_refused}

-- the ranges are n: the first n rows of a table have them, all of which end, and they are few
pub record Gathered (xs : List ℕ) (n : ℕ) (t : List Range) : Type 0 where
  pub number_is : ranges_number xs ≡ 0
  pub count_is : n ≡ length (ranges xs)
  pub table_is : take n t ≡ ranges xs
  pub few : n ≤ 128
  pub fit : Holds (all_end (ranges xs))
  pub goes_on : (blocks xs).number ≡ 0

-- k is the number of 30 to 35
pub record Refused (xs : List ℕ) (k : ℕ) : Type 0 where
  pub number_is : k ≡ ranges_number xs
  pub isnt : k ≡ 0 → ⊥

-- what `gather` promises
abbrev pub Gathers : List ℕ → Result ℕ ℕ → List Range → Type 0
Gathers xs r t = MatchResult r (λ n. Gathered xs n t) (Refused xs)

-- what `finish` promises of 34, if a range had it, and of how many ranges there are
abbrev pub Finishes : Taken → Result ℕ ℕ → Type 0
Finishes s r =
    MatchResult r (λ n. (s.fit ≡ true) × (s.count ≤ 128) × (n ≡ s.count))
    (λ k. ((s.fit ≡ false) × (k ≡ 34)) ⊎ ((s.fit ≡ true) × (128 < s.count) × (k ≡ 35)))

-- what `take` promises of the range that a block has, if it has one: it is judged and counted, and kept while there is a row for it
pub record Takes (here : List Range) (t : List Range) (s r : Taken) (u : List Range) : Type 0 where
  pub fit : r.fit ≡ true → (s.fit ≡ true) × Holds (all_end here)
  pub good : s.fit ≡ true → Holds (all_end here) → r.fit ≡ true
  pub count_is : r.count ≡ s.count + length here
  pub table_is : r.count ≤ 128 → take r.count u ≡ take s.count t ++ here

-- the walk stands at `at`, with the table t: the ranges passed, which are judged, counted and kept, and those to come are all ranges
pub record Gathering (xs : List ℕ) (at : ℕ) (s : Taken) (t : List Range) : Type 0 where
  pub passed : List Range
  pub left : (blocks_from xs at).number ≡ (blocks xs).number
  pub least : 8 * s.count ≤ at
  pub most : at ≤ length xs
  pub whole : passed ++ ranges_of (blocks_from xs at).blocks ≡ ranges xs
  pub fits : s.fit ≡ true → Holds (all_end passed)
  pub good : Holds (all_end passed) → s.fit ≡ true
  pub counted : length passed ≡ s.count
  pub kept : s.count ≤ 128 → take s.count t ≡ passed

pub gathering_start : (xs : List ℕ) (t : List Range) → Gathering xs 0 (record { fit = true; count = 0 }) t
unfolding blocks ranges
gathering_start xs t =
    record {
      passed = [];
      left = refl;
      least = omega arith;
      most = omega arith;
      whole = refl;
      fits = λ _. omega arith;
      good = λ _. refl;
      counted = refl;
      kept = λ _. refl;
    }

-- ---- the range of one block

module _ (xs : List ℕ) (at : ℕ) where
  pub none_here : test (is_range xs at) ≡ false → range_here xs at ≡ []
  none_here e = rw e

  pub some_here : {code start size : ℕ} → test (is_range xs at) ≡ true → code ≡ le 4 xs (at + 24) → start ≡ le 8 xs (at + 32)
      → size ≡ le 8 xs (at + 40) → range_here xs at ≡ range code start size ∷ []
  some_here e a b c = rw (e, a, b, c)

module _ {here : List Range} (t : List Range) (s : Taken) where
  pub takes_none : here ≡ [] → Takes here t s s t
  takes_none e =
      rw e
      (record {
        fit = λ z. (z, omega arith);
        good = λ z _. z;
        count_is = omega arith;
        table_is = λ _. sym (append-nil (take s.count t));
      })

  module _ (r : Range) (is : here ≡ r ∷ []) (u : Taken) (more : u.count ≡ s.count + 1) where
    takes : (v : List Range) → (u.fit ≡ true → (s.fit ≡ true) × Holds (ends r)) → (s.fit ≡ true → Holds (ends r) → u.fit ≡ true)
        → (u.count ≤ 128 → take u.count v ≡ take s.count t ++ (r ∷ [])) → Takes here t s u v
    takes v fit good kept =
        rw is
        (record {
          fit = λ z. ((fit z).0, ((fit z).1, omega arith));
          good = λ z h. good z h.0;
          count_is = more;
          table_is = kept;
        })

length_here : (xs : List ℕ) (at : ℕ) → length (range_here xs at) ≤ 1
length_here xs at =
    by_test (λ (l : List Range). length l ≤ 1) (is_range xs at) _ _ (λ _. omega arith) (λ _. omega arith)

-- ---- the walk

differ : {b : Bool} → b ≡ false → b ≡ true → ⊥
differ e f = let z : ◌≡◌ {A = ℕ} 0 1 = cc in omega arith

-- 30 to 33
refused_list : (xs : List ℕ) (k : ℕ) → k ≡ (blocks xs).number → (k ≡ 0 → ⊥) → Refused xs k
unfolding ranges_number
refused_list xs k e isnt =
    record { number_is = e ∙ sym (list_refused (λ k i. k) xs (λ rs. answer 0) (λ z. isnt (e ∙ z))); isnt = isnt }

module _ {xs : List ℕ} {at : ℕ} {k : Taken} {t : List Range} (w : Gathering xs at k t) where
  pub gathering_refused : {n : ℕ} → Err n ≡ brief (stepped xs at) → Refused xs n
  gathering_refused {n} step =
      let stop = stopped (stepped xs at) step in
      let l : blocks_from xs at ≡ listing n at [] = rw stop.0 at (blocks_refused xs at (rw stop.0 stop.1)) in
      refused_list xs n (sym (ap (λ (x : Listing). x.number) l) ∙ w.left) stop.1

  module _ {s : Pass} (step : Ok s ≡ brief (stepped xs at)) where
    step_ok : (stepped xs at).number ≡ 0
    step_ok = (passed (stepped xs at) step).0

    shown_is : s ≡ record { next = (stepped xs at).next.at; code = (stepped xs at).block.code }
    shown_is = (passed (stepped xs at) step).1

    pub stands_here : Standing xs at
    stands_here = standing xs at step_ok

    pub type_here : s.code ≡ type_at xs at
    type_here = rw shown_is (shows xs at step_ok).code_is

    module _ (isnt : s.code ≡ 0xFFFF → ⊥) where
      next_is : blocks_from xs at ≡ before (stepped xs at).block (blocks_from xs s.next)
      next_is = rw shown_is (blocks_next xs at step_ok (rw shown_is at isnt))

      next_ranges : ranges_of (blocks_from xs at).blocks ≡ range_here xs at ++ ranges_of (blocks_from xs s.next).blocks
      unfolding ranges_of
      next_ranges = rw (next_is, range_here_lem xs at step_ok)

      pub gathering_moves : (at + 8 ≤ s.next) × (s.next ≤ length xs)
      gathering_moves = let m = moves xs at step_ok (rw shown_is at isnt) in rw shown_is (m.by_least, m.within_buffer)

      pub gathering_next : (r : Taken) (u : List Range) → Takes (range_here xs at) t k r u → Gathering xs s.next r u
      gathering_next r u n =
          let m = gathering_moves in
          record {
            passed = w.passed ++ range_here xs at;
            left = sym (ap (λ (l : Listing). l.number) next_is) ∙ w.left;
            least = omega (arith, n.count_is, length_here xs at, w.least, m.0);
            most = m.1;
            whole = append_assoc w.passed (range_here xs at) _ ∙ rw (← next_ranges) w.whole;
            fits = λ z. all_append w.passed (range_here xs at) (w.fits (n.fit z).0) (n.fit z).1;
            good = λ h. n.good (w.good (all_left w.passed (range_here xs at) h)) (all_right w.passed (range_here xs at) h);
            counted = length-append w.passed (range_here xs at) ∙ omega (arith, w.counted, n.count_is);
            kept = λ h. n.table_is h ∙ rw (w.kept (omega (arith, n.count_is)));
          }

    module _ (is : s.code ≡ 0xFFFF) where
      end_is : blocks_from xs at ≡ listing 0 at ((stepped xs at).block ∷ [])
      end_is = blocks_end xs at step_ok (rw shown_is at is)

      number_ok : (blocks xs).number ≡ 0
      number_ok = sym w.left ∙ ap (λ (l : Listing). l.number) end_is

      all_passed_by : w.passed ≡ ranges xs
      unfolding ranges_of
      all_passed_by =
          let none : range_of (stepped xs at).block.kind ≡ [] =
          range_here_lem xs at step_ok ∙ none_here xs at (fails (is_range xs at) (λ h. omega (arith, type_here))) in
          sym (append-nil w.passed) ∙ rw (end_is, none) at w.whole

      count_passed : length (ranges xs) ≡ k.count
      count_passed = sym (ap length all_passed_by) ∙ w.counted

      -- 34, 35, or the table is whole
      pub gathering_end : (r : Result ℕ ℕ) → Finishes k r → Gathers xs r t
      unfolding ranges_number run
      gathering_end (Ok n) f =
          let fit : Holds (all_end (ranges xs)) = rw (← all_passed_by) (w.fits f.0) in
          rw f.2
          (record {
            number_is = after_ranges_lem (λ k i. k) xs (λ rs. answer 0) number_ok fit (omega (arith, count_passed, f.1));
            count_is = sym count_passed;
            table_is = w.kept f.1 ∙ all_passed_by;
            few = f.1;
            fit = fit;
            goes_on = number_ok;
          })
      gathering_end (Err n) (inl f) =
          let no : Holds (all_end (ranges xs)) → ⊥ = λ h. differ f.0 (w.good (rw all_passed_by h)) in
          record { number_is = f.1 ∙ sym (end_refused (λ k i. k) xs (λ rs. answer 0) number_ok no); isnt = λ z. omega (arith, f.1) }
      gathering_end (Err n) (inr f) =
          let fit : Holds (all_end (ranges xs)) = rw (← all_passed_by) (w.fits f.0) in
          record {
            number_is = f.2 ∙ sym (many_refused (λ k i. k) xs (λ rs. answer 0) number_ok fit (λ l. omega (arith, count_passed, f.1)));
            isnt = λ z. omega (arith, f.2);
          }
