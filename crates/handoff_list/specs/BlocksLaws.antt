-- The list of blocks, a step at a time.
-- Assumes nothing.
use Prim.Native.Nat.{ℕ, zero, suc, ◌+◌, ◌≤◌, ◌*◌}
use Rattle.std.specs.Prelude.{List, [], ◌∷◌, ◌≡◌, length}
use Rattle.std.proofs.Math.Path.{refl, sym}
use Rattle.std.proofs.Common.{arith}
use Rattle.facts.specs.FactLaws.{passes, fails}
use Rattle.facts.specs.RulesLaws.{by_test}
use Rattle.handoff_list.specs.declared.Counted.{Counted}
use Rattle.handoff_step.specs.declared.Stepped.{Stepped}
use Rattle.handoff_step.specs.Step.{refusal, stepped}
use Rattle.handoff_step.specs.StepLaws.{shows, step_left, moves}
use Rattle.handoff_list.specs.Blocks.{Listing, listing, before, accepts, ends, turn, within, blocks_from, Counts, blocks}

-- the three ways of a turn
module _ (at : ℕ) (s : Stepped) (l : Listing) where
  pub turn_refused : (s.number ≡ 0 → ⊥) → turn at s l ≡ listing s.number at []
  unfolding turn
  turn_refused isnt = rw (fails (accepts s) isnt)

  pub turn_end : s.number ≡ 0 → s.block.code ≡ 0xFFFF → turn at s l ≡ listing 0 at (s.block ∷ [])
  unfolding turn
  turn_end ok is = rw (passes (accepts s) ok, passes (ends s.block) is)

  pub turn_next : s.number ≡ 0 → (s.block.code ≡ 0xFFFF → ⊥) → turn at s l ≡ before s.block l
  unfolding turn
  turn_next ok isnt = rw (passes (accepts s) ok, fails (ends s.block) isnt)

  -- a property that each of them has
  pub by_turn : (P : Listing → Type 0) → ((s.number ≡ 0 → ⊥) → P (listing s.number at []))
      → (s.number ≡ 0 → s.block.code ≡ 0xFFFF → P (listing 0 at (s.block ∷ [])))
      → (s.number ≡ 0 → (s.block.code ≡ 0xFFFF → ⊥) → P (before s.block l)) → P (turn at s l)
  unfolding turn
  by_turn P refused end next =
      by_test P (accepts s) _ _ (λ ok. by_test P (ends s.block) _ _ (λ is. end ok is) (λ isnt. next ok isnt)) refused

-- what follows a block counts only where the step isn't refused and the block isn't the end block
turn_same : (at : ℕ) (s : Stepped) (l m : Listing) → (s.number ≡ 0 → (s.block.code ≡ 0xFFFF → ⊥) → l ≡ m) → turn at s l ≡ turn at s m
turn_same at s l m same =
    by_turn at s l (λ (x : Listing). x ≡ turn at s m) (λ isnt. sym (turn_refused at s m isnt)) (λ ok is. sym (turn_end at s m ok is))
    (λ ok isnt. rw (same ok isnt) (sym (turn_next at s m ok isnt)))

module _ (xs : List ℕ) where
  -- where the cursor stands after a block
  next_at : (at : ℕ) → (stepped xs at).number ≡ 0 → ((stepped xs at).block.code ≡ 0xFFFF → ⊥) → at + 8 ≤ (stepped xs at).next.at
  next_at at ok isnt = let s = shows xs at ok in omega (arith, (s.onward isnt).1, s.least)

  -- at the buffer's end one more turn says what none said
  none_left : (at : ℕ) (l : Listing) → length xs ≤ at → turn at (stepped xs at) l ≡ listing 32 at []
  none_left at l h = rw (step_left xs at h) (turn_refused at (refusal at 32 0) l (λ z. absurd (omega arith)))

  -- as many steps as bytes are left are enough
  enough : (f g at : ℕ) → length xs ≤ f + at → length xs ≤ g + at → within xs f at ≡ within xs g at
  unfolding within
  enough zero zero at h k = refl
  enough zero (suc g) at h k = sym (none_left at (within xs g (stepped xs at).next.at) (omega arith))
  enough (suc f) zero at h k = none_left at (within xs f (stepped xs at).next.at) (omega arith)
  enough (suc f) (suc g) at h k =
      turn_same at (stepped xs at) _ _
      (λ ok isnt. enough f g (stepped xs at).next.at (omega (arith, next_at at ok isnt)) (omega (arith, next_at at ok isnt)))

  within_turn : (f at : ℕ) → length xs ≤ f + at → within xs f at ≡ turn at (stepped xs at) (within xs f (stepped xs at).next.at)
  unfolding within
  within_turn zero at h = sym (none_left at (within xs zero (stepped xs at).next.at) (omega arith))
  within_turn (suc f) at h =
      turn_same at (stepped xs at) _ _
      (λ ok isnt. enough f (suc f) (stepped xs at).next.at (omega (arith, next_at at ok isnt)) (omega (arith, next_at at ok isnt)))

  -- the list from any cursor on is one step and then the list from the next cursor on
  pub blocks_turn : (at : ℕ) → blocks_from xs at ≡ turn at (stepped xs at) (blocks_from xs (stepped xs at).next.at)
  unfolding blocks_from
  blocks_turn at = within_turn (length xs) at (omega arith)

  module _ (at : ℕ) where
    pub blocks_refused : ((stepped xs at).number ≡ 0 → ⊥) → blocks_from xs at ≡ listing (stepped xs at).number at []
    blocks_refused isnt = rw (blocks_turn at) (turn_refused at (stepped xs at) _ isnt)

    pub blocks_end : (stepped xs at).number ≡ 0 → (stepped xs at).block.code ≡ 0xFFFF
        → blocks_from xs at ≡ listing 0 at ((stepped xs at).block ∷ [])
    blocks_end ok is = rw (blocks_turn at) (turn_end at (stepped xs at) _ ok is)

    pub blocks_next : (stepped xs at).number ≡ 0 → ((stepped xs at).block.code ≡ 0xFFFF → ⊥)
        → blocks_from xs at ≡ before (stepped xs at).block (blocks_from xs (stepped xs at).next.at)
    blocks_next ok isnt = rw (blocks_turn at) (turn_next at (stepped xs at) _ ok isnt)

-- no more blocks than the bytes from the cursor on have eights
few_within : (xs : List ℕ) (f at : ℕ) → at ≤ length xs → 8 * length (within xs f at).blocks + at ≤ length xs
unfolding within
few_within xs zero at h = omega arith
few_within xs (suc f) at h =
    by_turn at (stepped xs at) (within xs f (stepped xs at).next.at) (λ (l : Listing). 8 * length l.blocks + at ≤ length xs)
    (λ isnt. omega arith)
    (λ ok is. let s = shows xs at ok in omega (arith, s.inside, s.least))
    (λ ok isnt.
    let m = moves xs at ok isnt in
    omega (arith, m.by_least, few_within xs f (stepped xs at).next.at m.within_buffer))

-- so a walk from the start ends after at most one step for each eight bytes
pub few_blocks : (xs : List ℕ) → 8 * length (blocks xs).blocks ≤ length xs
unfolding blocks blocks_from
few_blocks xs = omega (arith, few_within xs (length xs) 0 (omega arith))

-- any two answers that the promise of a count admits are the same
pub one_count : (xs : List ℕ) (r s : Counted) → Counts xs r → Counts xs s → r ≡ s
one_count xs r s a b = cc
