-- The types of block that the rules name, and what a block of each is.
-- Assumes nothing.
use Rattle.std.specs.Prelude.{ℕ, ◌+◌, ◌-◌, ◌≤◌, List, ◌⊎◌, ◌≡◌, refl}
use Rattle.std.proofs.Math.Logic.{inl, inr}
use native.Mathlib.Omega.{arith}
use Rattle.facts.specs.RulesLaws.{Passed}
use Rattle.handoff_step.specs.declared.BlockType.{BlockType}
use Rattle.handoff_step.specs.declared.BlockType.TheVariants.{Handoff, Resource, Guid, End, Other}
use Rattle.handoff_step.specs.declared.Kind.TheVariants as kind
use Rattle.handoff_step.specs.declared.Stepped.{Stepped}
use Rattle.handoff_step.specs.Step.{length_at, shown, resource_at, from_resource, from_guid, from_end, from_later, from_first, from_head, step_rules, stepped}
use Rattle.handoff_step.specs.StepLaws.{all_passed, shows}

-- what each says of the number in the header
abbrev pub Typed : ℕ → BlockType → Type 0
Typed t Handoff = t ≡ 1
Typed t Resource = t ≡ 3
Typed t Guid = t ≡ 4
Typed t End = t ≡ 0xFFFF
Typed t Other = (t ≡ 1 → ⊥) × (t ≡ 3 → ⊥) × (t ≡ 4 → ⊥) × (t ≡ 0xFFFF → ⊥)

-- the kind that s, a step at `at` that isn't refused, shows of a block after the first
pub record Kinds (xs : List ℕ) (at : ℕ) (s : Stepped) : Type 0 where
  pub resource : (at ≡ 0 → ⊥) → s.block.code ≡ 3 → (48 ≤ s.block.length) × (s.block.kind ≡ resource_at xs at)
  pub guid : (at ≡ 0 → ⊥) → s.block.code ≡ 4 → (24 ≤ s.block.length) × (s.block.kind ≡ kind.Guid (at + 24) (s.block.length - 24))
  pub other : (at ≡ 0 → ⊥) → (s.block.code ≡ 3 → ⊥) → (s.block.code ≡ 4 → ⊥) → (s.block.code ≡ 0xFFFF → ⊥) → s.block.kind ≡ kind.Unknown

kinds_passed : (xs : List ℕ) (at : ℕ) (s : Stepped) → Passed (step_rules xs at) s → Kinds xs at s
unfolding step_rules from_head from_first from_later from_resource from_guid from_end
kinds_passed xs at s (left, (head, inl (zero, (fits, e)))) =
    rw e
    (record { resource = λ isnt. absurd (isnt zero); guid = λ isnt. absurd (isnt zero); other = λ isnt. absurd (isnt zero) })
kinds_passed xs at s (left, (head, inr (zero, inl (is, (fits, e))))) =
    rw e (record { resource = λ _ _. (fits, refl); guid = λ _ z. absurd (omega arith); other = λ _ z. absurd (z refl) })
kinds_passed xs at s (left, (head, inr (zero, inr (three, inl (is, (fits, e)))))) =
    rw e (record { resource = λ _ z. absurd (omega arith); guid = λ _ _. (fits, refl); other = λ _ _ z. absurd (z refl) })
kinds_passed xs at s (left, (head, inr (zero, inr (three, inr (four, inl (is, (fits, e))))))) =
    rw e (record { resource = λ _ z. absurd (omega arith); guid = λ _ z. absurd (omega arith); other = λ _ _ _ z. absurd (z refl) })
kinds_passed xs at s (left, (head, inr (zero, inr (three, inr (four, inr (end, e)))))) =
    rw e (record { resource = λ _ z. absurd (three z); guid = λ _ z. absurd (four z); other = λ _ _ _ _. refl })

pub kinds : (xs : List ℕ) (at : ℕ) → (stepped xs at).number ≡ 0 → Kinds xs at (stepped xs at)
kinds xs at e = kinds_passed xs at (stepped xs at) (all_passed xs at e)

whole : (s : Stepped) (at n : ℕ) → s.number ≡ 0 → s.block.place ≡ at → s.block.length ≡ n
    → shown at s.block.code n s.next.at s.block.kind ≡ s
whole s at n number place length = rw (← place, ← length, ← number) refl

-- a step that isn't refused is what it shows
pub all_shown : (xs : List ℕ) (at : ℕ) → (stepped xs at).number ≡ 0
    → shown at (stepped xs at).block.code (length_at xs at) (stepped xs at).next.at (stepped xs at).block.kind ≡ stepped xs at
all_shown xs at e = let s = shows xs at e in whole (stepped xs at) at (length_at xs at) e s.place_is s.length_is

-- where a type has no rule after the first block its number is none of those that have one
pub not_ruled : (t : ℕ) (b : BlockType) → Typed t b → (b ≡ Handoff) ⊎ (b ≡ Other) → (t ≡ 3 → ⊥) × (t ≡ 4 → ⊥) × (t ≡ 0xFFFF → ⊥)
not_ruled t b typed (inl e) =
    let is : t ≡ 1 = rw e at typed in
    ((λ z. absurd (omega arith)), (λ z. absurd (omega arith)), (λ z. absurd (omega arith)))
not_ruled t b typed (inr e) =
    let is : Typed t Other = rw e at typed in
    (is.1, is.2, is.3)

-- where a type isn't the handoff block's its number isn't 1
pub not_handoff : (t : ℕ) (b : BlockType) → Typed t b → (b ≡ Handoff → ⊥) → t ≡ 1 → ⊥
not_handoff t Handoff typed isnt is = absurd (isnt refl)
not_handoff t Resource typed isnt is = omega arith
not_handoff t Guid typed isnt is = omega arith
not_handoff t End typed isnt is = omega arith
not_handoff t Other typed isnt is = typed.0 is
