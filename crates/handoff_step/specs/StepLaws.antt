-- What a step shows, and which bytes it looks at.
-- Assumes nothing.
use Rattle.std.specs.Prelude.{ℕ, ◌+◌, ◌%◌, ◌≤◌, Bool, true, false, List, ◌≡◌, refl, length}
use Rattle.std.proofs.Math.Logic.{inl, inr}
use Rattle.std.proofs.Common.{sym}
use native.Mathlib.Omega.{arith}
use Rattle.facts.specs.Fact.{◌≤?◌, ◌≡?◌, ◌and◌, Holds}
use Rattle.facts.specs.FactLaws.{fails}
use Rattle.facts.specs.Rules.{run}
use Rattle.facts.specs.RulesLaws.{Passed, passed, run_passed, by_test}
use Rattle.words.specs.Le.{Alike}
use Rattle.words.specs.LeLaws.{le_in}
use Rattle.handoff_step.specs.declared.Kind.{Kind}
use Rattle.handoff_step.specs.declared.Kind.TheVariants.{Nothing, Unknown, Handoff, Resource, Guid, End}
use Rattle.handoff_step.specs.declared.Stepped.{Stepped}
use Rattle.handoff_step.specs.Step.{type_at, length_at, refusal, shown, resource_at, head_fits, from_resource, from_guid, from_end, from_later, from_first, from_head, step_rules, stepped, Steps}

abbrev pub is_handoff : Kind → Bool
is_handoff Nothing = false
is_handoff Unknown = false
is_handoff Handoff = true
is_handoff (Resource t a s n) = false
is_handoff (Guid p n) = false
is_handoff End = false

abbrev pub is_end : Kind → Bool
is_end Nothing = false
is_end Unknown = false
is_end Handoff = false
is_end (Resource t a s n) = false
is_end (Guid p n) = false
is_end End = true

-- s, a step at `at` that isn't refused
pub record Shows (xs : List ℕ) (at : ℕ) (s : Stepped) : Type 0 where
  pub place_is : s.block.place ≡ at
  pub code_is : s.block.code ≡ type_at xs at
  pub length_is : s.block.length ≡ length_at xs at
  pub least : 8 ≤ s.block.length
  pub eights : s.block.length % 8 ≡ 0
  pub inside : at + s.block.length ≤ length xs
  -- the block at cursor 0 is the handoff block, and no other is
  pub first : at ≡ 0 → (s.block.kind ≡ Handoff) × (s.block.code ≡ 1) × (s.block.length ≡ 56)
  pub later : (at ≡ 0 → ⊥) → is_handoff s.block.kind ≡ false
  -- a block of type 0xFFFF is the end block, and the cursor stays on it
  pub stays : s.block.code ≡ 0xFFFF → (s.block.kind ≡ End) × (s.block.length ≡ 8) × (s.next.at ≡ at)
  -- past any other the cursor moves on
  pub onward : (s.block.code ≡ 0xFFFF → ⊥) → (is_end s.block.kind ≡ false) × (s.next.at ≡ at + s.block.length)

-- a step that isn't refused has passed every rule
pub all_passed : (xs : List ℕ) (at : ℕ) → (stepped xs at).number ≡ 0 → Passed (step_rules xs at) (stepped xs at)
unfolding stepped step_rules from_head from_first from_later from_resource from_guid from_end
all_passed xs at e = passed (refusal at) (λ (s : Stepped). s.number) (λ k i. refl) (step_rules xs at) refl e

-- what the header says of any block, and what is left to say of its kind
shows_at : (xs : List ℕ) (at : ℕ) → Holds (head_fits xs at) → (p t next : ℕ) (kind : Kind) → p ≡ at → t ≡ type_at xs at
    → (at ≡ 0 → (kind ≡ Handoff) × (t ≡ 1) × (length_at xs at ≡ 56))
    → ((at ≡ 0 → ⊥) → is_handoff kind ≡ false)
    → (t ≡ 0xFFFF → (kind ≡ End) × (length_at xs at ≡ 8) × (next ≡ at))
    → ((t ≡ 0xFFFF → ⊥) → (is_end kind ≡ false) × (next ≡ at + length_at xs at)) → Shows xs at (shown p t (length_at xs at) next kind)
shows_at xs at head p t next kind place code first later stays onward =
    record {
      place_is = place;
      code_is = code;
      length_is = refl;
      least = head.1.0;
      eights = head.1.1.0;
      inside = head.1.1.1;
      first = first;
      later = later;
      stays = stays;
      onward = onward;
    }

shows_passed : (xs : List ℕ) (at : ℕ) (s : Stepped) → Passed (step_rules xs at) s → Shows xs at s
unfolding step_rules from_head from_first from_later from_resource from_guid from_end
shows_passed xs at s (left, (head, inl (zero, (fits, e)))) =
    rw e (shows_at xs at head _ _ _ _ (sym zero) refl (λ z. (refl, fits.0, fits.1)) (λ isnt. absurd (isnt zero))
    (λ z. absurd (omega arith)) (λ isnt. (refl, omega arith)))
shows_passed xs at s (left, (head, inr (zero, inl (is, (fits, e))))) =
    rw e (shows_at xs at head _ _ _ _ refl (sym is) (λ z. absurd (zero z)) (λ isnt. refl) (λ z. absurd (omega arith))
    (λ isnt. (refl, refl)))
shows_passed xs at s (left, (head, inr (zero, inr (three, inl (is, (fits, e)))))) =
    rw e (shows_at xs at head _ _ _ _ refl (sym is) (λ z. absurd (zero z)) (λ isnt. refl) (λ z. absurd (omega arith))
    (λ isnt. (refl, refl)))
shows_passed xs at s (left, (head, inr (zero, inr (three, inr (four, inl (is, (fits, e))))))) =
    rw e (shows_at xs at head _ _ _ _ refl (sym is) (λ z. absurd (zero z)) (λ isnt. refl) (λ z. (refl, fits, refl))
    (λ isnt. absurd (isnt refl)))
shows_passed xs at s (left, (head, inr (zero, inr (three, inr (four, inr (end, e)))))) =
    rw e (shows_at xs at head _ _ _ _ refl refl (λ z. absurd (zero z)) (λ isnt. refl) (λ z. absurd (end z)) (λ isnt. (refl, refl)))

pub shows : (xs : List ℕ) (at : ℕ) → (stepped xs at).number ≡ 0 → Shows xs at (stepped xs at)
shows xs at e = shows_passed xs at (stepped xs at) (all_passed xs at e)

-- at the buffer's end and past it nothing is left
pub step_left : (xs : List ℕ) (at : ℕ) → length xs ≤ at → stepped xs at ≡ refusal at 32 0
unfolding stepped step_rules run
step_left xs at h = rw (fails (at + 1 ≤? length xs) (λ l. omega arith))

-- a refused step has one of the four numbers; the cursor comes back as it was, and all else is zero
pub record Refused (at : ℕ) (s : Stepped) : Type 0 where
  pub kept : s ≡ refusal at s.number 0
  pub low : 30 ≤ s.number
  pub high : s.number ≤ 33

abbrev Keeps : ℕ → Stepped → Type 0
Keeps at s = (s.number ≡ 0 → ⊥) → Refused at s

-- an answer isn't refused
answers : {A : Type 0} {at : ℕ} {s : Stepped} → s.number ≡ 0 → A → Keeps at s
answers e a isnt = absurd (isnt e)

-- a refusal is
refuses : {A : Type 0} {at k : ℕ} → 30 ≤ k → k ≤ 33 → A → Keeps at (refusal at k 0)
refuses low high a isnt = record { kept = refl; low = low; high = high }

keeps_later : (xs : List ℕ) (at t n : ℕ) → Keeps at (run (refusal at) (from_later xs at t n))
unfolding from_later from_resource from_guid from_end run
keeps_later xs at t n =
    by_test (Keeps at) (t ≡? 3) _ _ (λ _. by_test (Keeps at) (48 ≤? n) _ _ (answers refl) (refuses (omega arith) (omega arith)))
    (λ _. by_test (Keeps at) (t ≡? 4) _ _ (λ _. by_test (Keeps at) (24 ≤? n) _ _ (answers refl) (refuses (omega arith) (omega arith)))
    (λ _. by_test (Keeps at) (t ≡? 0xFFFF) _ _ (λ _. by_test (Keeps at) (n ≡? 8) _ _ (answers refl) (refuses (omega arith) (omega arith)))
    (answers refl)))

pub refused : (xs : List ℕ) (at : ℕ) → ((stepped xs at).number ≡ 0 → ⊥) → Refused at (stepped xs at)
unfolding stepped step_rules from_head from_first run
refused xs at =
    by_test (Keeps at) (at + 1 ≤? length xs) _ _
    (λ _. by_test (Keeps at) (head_fits xs at) _ _
    (λ _. by_test (Keeps at) (at ≡? 0) _ _
    (λ _. by_test (Keeps at) (type_at xs at ≡? 1 and length_at xs at ≡? 56) _ _ (answers refl) (refuses (omega arith) (omega arith)))
    (λ _. keeps_later xs at (type_at xs at) (length_at xs at)))
    (refuses (omega arith) (omega arith)))
    (refuses (omega arith) (omega arith))

-- a step that shows a block other than the end block moves the cursor on by the block's length, at least 8, and not out of the buffer
pub record Moves (xs : List ℕ) (at : ℕ) (s : Stepped) : Type 0 where
  pub by_length : s.next.at ≡ at + s.block.length
  pub by_least : at + 8 ≤ s.next.at
  pub within_buffer : s.next.at ≤ length xs

pub moves : (xs : List ℕ) (at : ℕ) → (stepped xs at).number ≡ 0 → ((stepped xs at).block.code ≡ 0xFFFF → ⊥) → Moves xs at (stepped xs at)
moves xs at ok isnt =
    let s = shows xs at ok in
    let on = (s.onward isnt).1 in
    record { by_length = on; by_least = omega (arith, s.least); within_buffer = omega (arith, s.inside) }

module _ (a b : List ℕ) (at : ℕ) where
  -- the data of a resource of 48 bytes or more lie in the block
  same_resource : Alike a b at (length_at a at) → 48 ≤ length_at a at → resource_at a at ≡ resource_at b at
  same_resource same fits =
      rw (
        le_in same 4 (at + 24) (omega arith) (omega arith),
        le_in same 4 (at + 28) (omega arith) (omega arith),
        le_in same 8 (at + 32)
            (omega arith) (omega arith),
        le_in same 8 (at + 40) (omega arith) (omega arith),
      )

  same_later : (s : Stepped) → Alike a b at (length_at a at) → Passed (from_later a at (type_at a at) (length_at a at)) s
      → Passed (from_later b at (type_at a at) (length_at a at)) s
  unfolding from_later from_resource
  same_later s same (inl (is, (fits, e))) = inl (is, (fits, rw (← same_resource same fits) e))
  same_later s same (inr rest) = inr rest

  same_passed : (s : Stepped) → Alike a b at (length_at a at) → at + length_at a at ≤ length b → Passed (step_rules a at) s
      → Passed (step_rules b at) s
  unfolding step_rules from_head
  same_passed s same room (left, (head, rest)) =
      let t : type_at a at ≡ type_at b at = le_in same 2 at (omega arith) (omega arith) in
      let n : length_at a at ≡ length_at b at = le_in same 2 (at + 2) (omega arith) (omega arith) in
      rw (← t, ← n) (
        omega arith,
        (
          (omega arith, (head.1.0, (head.1.1.0, omega arith))),
          elim rest [
            | inl first ↦ inl first
            | inr later ↦ inr
                (later.0, same_later s same later.1)
          ],
        ),
      )

  run_steps : (s : Stepped) → Passed (step_rules b at) s → stepped b at ≡ s
  unfolding stepped
  run_steps s h = run_passed (refusal at) (step_rules b at) s h

  -- a step that isn't refused goes by the block's own bytes alone, and by no byte after them
  pub step_frame : (stepped a at).number ≡ 0 → Alike a b at (stepped a at).block.length → at + (stepped a at).block.length ≤ length b
      → stepped b at ≡ stepped a at
  step_frame e same room =
      let n = (shows a at e).length_is in
      run_steps (stepped a at) (same_passed (stepped a at) (rw n at same) (rw n at room) (all_passed a at e))

-- any two answers that the promise of a step admits are the same
pub one_step : (xs : List ℕ) (at : ℕ) (r s : Stepped) → Steps xs at r → Steps xs at s → r ≡ s
one_step xs at r s a b = cc
