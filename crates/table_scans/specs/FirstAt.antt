-- What a scan over the entries answers.
-- Assumes nothing.
use Rattle.std.specs.Prelude.{ℕ, ◌<◌, ◌≡◌, Option, MatchOption}
use Rattle.facts.specs.Fact.{Fact}
use Rattle.facts.specs.First.{first_fault}

-- r is the first number below n at which p fails, or `None` where it fails at none
abbrev pub FirstAt : (ℕ → Fact) → ℕ → Option ℕ → Type 0
FirstAt p n r = MatchOption r (n ≡ first_fault p n) (λ i. (i < n) × (i ≡ first_fault p n))
