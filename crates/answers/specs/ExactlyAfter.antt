-- Of a call that reads an image first: which rule is the first that isn't passed, a rule of the reading or one of its own.
-- Assumes nothing.
use Rattle.std.specs.Prelude.{ℕ, ◌⊎◌, ◌≡◌}
use Rattle.facts.specs.Rules.{Rules}
use Rattle.facts.specs.Exactly.{Fails}
use Rattle.answers.specs.declared.Reading.{Reading}

-- s are the rules of the reading r, and t those that follow it
abbrev pub FailsAfter : {A : Type 0} → Rules Reading → Reading → Rules A → ℕ → ℕ → Type 0
FailsAfter s r t k i = Fails s k i ⊎ ((r.number ≡ 0) × Fails t k i)
