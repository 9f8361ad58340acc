-- The count, one position more: a byte, nothing, or the end of a run.
-- Assumes nothing.
use Rattle.std.specs.Prelude.{ℕ, zero, suc, ◌+◌, ◌-◌, ◌≤◌, ◌<◌, ◌≡◌, refl}
use Rattle.std.proofs.Common.{sym, ap, ◌∙◌, arith}
use Rattle.std.proofs.Math.Decide.{ℕ_discrete}
use Rattle.fold_tally.specs.declared.Tally.{Tally}
use Rattle.fold_tally.specs.Tally.{ended, stepped, tally_to}

ended_none : (n : ℕ) → n ≡ 0 → ended n ≡ 0
ended_none n e = rw e

ended_some : (n : ℕ) → (n ≡ 0 → ⊥) → ended n ≡ 1
ended_some zero h = absurd (h refl)
ended_some (suc n) h = refl

pub by_step : (f : ℕ → ℕ) (k : ℕ) (P : Type 0)
    → ((b : ℕ) → f k ≡ suc b → (tally_to f (suc k)).run ≡ (tally_to f k).run + 1 → (tally_to f (suc k)).runs ≡ (tally_to f k).runs
    → (tally_to f (suc k)).bytes ≡ (tally_to f k).bytes + 1 → P)
    → (f k ≡ 0 → (tally_to f k).run ≡ 0 → (tally_to f (suc k)).run ≡ 0 → (tally_to f (suc k)).runs ≡ (tally_to f k).runs
    → (tally_to f (suc k)).bytes ≡ (tally_to f k).bytes → P)
    → (f k ≡ 0 → ((tally_to f k).run ≡ 0 → ⊥) → (tally_to f (suc k)).run ≡ 0 → (tally_to f (suc k)).runs ≡ (tally_to f k).runs + 1
    → (tally_to f (suc k)).bytes ≡ (tally_to f k).bytes → P) → P
unfolding tally_to
by_step f k P byte idle ends = go (f k) refl
  where
    go : (c : ℕ) → f k ≡ c → P
    go (suc b) e =
        byte b e (ap (λ (c : ℕ). (stepped c (tally_to f k)).run) e) (ap (λ (c : ℕ). (stepped c (tally_to f k)).runs) e)
        (ap (λ (c : ℕ). (stepped c (tally_to f k)).bytes) e)
    go zero e =
        let r0 : (stepped (f k) (tally_to f k)).run ≡ 0 = ap (λ (c : ℕ). (stepped c (tally_to f k)).run) e in
        let rs : (stepped (f k) (tally_to f k)).runs ≡ (tally_to f k).runs + ended (tally_to f k).run =
        ap (λ (c : ℕ). (stepped c (tally_to f k)).runs) e in
        let bs : (stepped (f k) (tally_to f k)).bytes ≡ (tally_to f k).bytes = ap (λ (c : ℕ). (stepped c (tally_to f k)).bytes) e in
        elim (ℕ_discrete (tally_to f k).run 0) [
          | yes z ↦ idle e z r0 (omega (arith, rs, ended_none (tally_to f k).run z)) bs
          | no z ↦ ends e z r0 (omega (arith, rs, ended_some (tally_to f k).run z)) bs
        ]
