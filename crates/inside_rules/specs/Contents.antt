-- Request #107: rules 25, 26 and 27 in their order.
-- Assumes nothing.
use Rattle.std.specs.Prelude.{ℕ, ◌+◌, ◌*◌, ◌≤◌, ◌<◌, List, ◌≡◌, length}
use Rattle.facts.specs.Fact.{Holds}
use Rattle.facts.specs.Rules.{answer, rule, run}
use Rattle.table.specs.Passes.{place, clear}
use Rattle.inside_judge.specs.Rules.{modules_fit, words_fit, types_fit}

-- the number of the first that isn't passed, or 0
unfoldable pub contents_number : List ℕ → ℕ → ℕ → ℕ → ℕ → ℕ → ℕ → ℕ
contents_number xs v f t n c z =
    run (λ k i. k) (rule 25 (modules_fit xs v f c z) (rule 26 (words_fit xs v f t n c z) (rule 27 (types_fit xs v f) (answer 0))))

-- the n entries at t have passed rules 12, 22, 13 and 14
pub record Entries (xs : List ℕ) (t n c z : ℕ) : Type 0 where
  pub within : t + 4 * n ≤ length xs
  pub good : (i : ℕ) → i < n → (place xs t i).number ≡ 0
  pub clears : (i : ℕ) → i < n → Holds (clear xs t (t + 4 * n) c z i)
