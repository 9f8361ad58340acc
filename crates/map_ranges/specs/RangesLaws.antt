-- The range of the block at a cursor, by the block's own numbers; and what the refusals come to.
-- Assumes nothing.
use Rattle.std.specs.Prelude.{ℕ, ◌+◌, ◌≤◌, cond, List, [], ◌∷◌, ◌≡◌, refl, length}
use Rattle.std.proofs.Common.{inl, inr, arith}
use Rattle.facts.specs.Fact.{Fact, ◌≤?◌, ◌≡?◌, ◌and◌, test, Holds}
use Rattle.facts.specs.FactLaws.{passes, fails, same_test}
use Rattle.facts.specs.Rules.{Rules, run}
use Rattle.facts.specs.RulesLaws.{Passed, by_test}
use Rattle.words.specs.Le.{le}
use Rattle.handoff_step.specs.declared.Stepped.{Stepped}
use Rattle.handoff_step.specs.Step.{type_at, from_resource, from_guid, from_end, from_later, from_first, from_head, step_rules, stepped}
use Rattle.handoff_step.specs.StepLaws.{all_passed, shows}
use Rattle.handoff_list.specs.Blocks.{blocks}
use Rattle.map_ranges.specs.declared.Range.{Range}
use Rattle.map_ranges.specs.Ranges.{range, matters, range_of, ranges, all_end, after_ranges, ranges_number}

-- whether the block at `at`, which stands, is a resource of a type that counts
abbrev pub is_range : List ℕ → ℕ → Fact
is_range xs at = type_at xs at ≡? 3 and matters (le 4 xs (at + 24))

-- its range, if it is
abbrev pub range_here : List ℕ → ℕ → List Range
range_here xs at = cond (test (is_range xs at)) (range (le 4 xs (at + 24)) (le 8 xs (at + 32)) (le 8 xs (at + 40)) ∷ []) []

-- a block stands at `at`
pub record Standing (xs : List ℕ) (at : ℕ) : Type 0 where
  pub accepted : (stepped xs at).number ≡ 0
  pub header : at + 8 ≤ length xs
  pub data_fits_lem : type_at xs at ≡ 3 → at + 48 ≤ length xs

here : (xs : List ℕ) (at : ℕ) (s : Stepped) → Passed (step_rules xs at) s → range_of s.block.kind ≡ range_here xs at
unfolding step_rules from_head from_first from_later from_resource from_guid from_end
here xs at s (left, (head, inl (zero, (fits, e)))) = rw (e, fails (is_range xs at) (λ h. omega arith))
here xs at s (left, (head, inr (zero, inl (is, (fits, e))))) =
    rw (e, same_test (matters (le 4 xs (at + 24))) (is_range xs at) (λ m. (is, m)) (λ h. h.1))
here xs at s (left, (head, inr (zero, inr (three, inl (is, (fits, e)))))) = rw (e, fails (is_range xs at) (λ h. three h.0))
here xs at s (left, (head, inr (zero, inr (three, inr (four, inl (is, (fits, e))))))) = rw (e, fails (is_range xs at) (λ h. three h.0))
here xs at s (left, (head, inr (zero, inr (three, inr (four, inr (end, e)))))) = rw (e, fails (is_range xs at) (λ h. three h.0))

room : (xs : List ℕ) (at : ℕ) (s : Stepped) → Passed (step_rules xs at) s → type_at xs at ≡ 3 → at + 48 ≤ length xs
unfolding step_rules from_head from_first from_later from_resource from_guid from_end
room xs at s (left, (head, inl (zero, (fits, e)))) is = absurd (omega arith)
room xs at s (left, (head, inr (zero, inl (_, (fits, e))))) is = omega arith
room xs at s (left, (head, inr (zero, inr (three, rest)))) is = absurd (three is)

pub range_here_lem : (xs : List ℕ) (at : ℕ) → (stepped xs at).number ≡ 0 → range_of (stepped xs at).block.kind ≡ range_here xs at
range_here_lem xs at ok = here xs at (stepped xs at) (all_passed xs at ok)

pub standing : (xs : List ℕ) (at : ℕ) → (stepped xs at).number ≡ 0 → Standing xs at
standing xs at ok =
    let s = shows xs at ok in
    record {
      accepted = ok;
      header = omega (arith, s.least, s.inside);
      data_fits_lem = room xs at (stepped xs at) (all_passed xs at ok);
    }

module _ {A : Type 0} (refuse : ℕ → ℕ → A) (xs : List ℕ) (next : List Range → Rules A) where
  -- where none of these refusals is given, the call goes on with the ranges
  pub after_ranges_lem : (blocks xs).number ≡ 0 → Holds (all_end (ranges xs)) → length (ranges xs) ≤ 128
      → run refuse (after_ranges xs next) ≡ run refuse (next (ranges xs))
  unfolding run after_ranges
  after_ranges_lem ok fit few =
      rw (passes ((blocks xs).number ≡? 0) ok, passes (all_end (ranges xs)) fit, passes (length (ranges xs) ≤? 128) few)

  -- each refusal is the answer
  pub list_refused : ((blocks xs).number ≡ 0 → ⊥) → run refuse (after_ranges xs next) ≡ refuse (blocks xs).number 0
  unfolding run after_ranges
  list_refused isnt = rw (fails ((blocks xs).number ≡? 0) isnt)

  pub end_refused : (blocks xs).number ≡ 0 → (Holds (all_end (ranges xs)) → ⊥) → run refuse (after_ranges xs next) ≡ refuse 34 0
  unfolding run after_ranges
  end_refused ok over = rw (passes ((blocks xs).number ≡? 0) ok, fails (all_end (ranges xs)) over)

  pub many_refused : (blocks xs).number ≡ 0 → Holds (all_end (ranges xs)) → (length (ranges xs) ≤ 128 → ⊥)
      → run refuse (after_ranges xs next) ≡ refuse 35 0
  unfolding run after_ranges
  many_refused ok fit many =
      rw (passes ((blocks xs).number ≡? 0) ok, passes (all_end (ranges xs)) fit, fails (length (ranges xs) ≤? 128) many)

  -- whichever refusal the ranges come to is the answer
  pub after_refused : (ranges_number xs ≡ 0 → ⊥) → run refuse (after_ranges xs next) ≡ refuse (ranges_number xs) 0
  unfolding ranges_number run after_ranges
  after_refused =
      by_test (λ (k : ℕ). (k ≡ 0 → ⊥) → run refuse (after_ranges xs next) ≡ refuse k 0) ((blocks xs).number ≡? 0) _ _
      (λ ok. by_test (λ (k : ℕ). (k ≡ 0 → ⊥) → run refuse (after_ranges xs next) ≡ refuse k 0) (all_end (ranges xs)) _ _
      (λ fit. by_test (λ (k : ℕ). (k ≡ 0 → ⊥) → run refuse (after_ranges xs next) ≡ refuse k 0) (length (ranges xs) ≤? 128) _ _
      (λ few isnt. absurd (isnt refl)) (λ many _. many_refused ok fit many)) (λ over _. end_refused ok over)) (λ isnt _. list_refused isnt)
