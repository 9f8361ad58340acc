-- "Exactly then": a call is refused with a number and an index exactly where that rule, at that entry, is the first that isn't passed. Once
-- over `Rules`. Assumes nothing.
use Rattle.std.specs.Prelude.{ℕ, ◌<◌, ◌⊎◌, ◌≡◌}
use Rattle.facts.specs.Fact.{Holds}
use Rattle.facts.specs.Rules.{Rules, answer, rule, pass, choose}

-- rule k, at entry i, is the first of these that isn't passed; a rule that isn't one of entries has the index 0
abbrev pub Fails : {A : Type 0} → Rules A → ℕ → ℕ → Type 0
Fails (answer a) k i = ⊥
Fails (rule n p t) k i = ((Holds p → ⊥) × (k ≡ n) × (i ≡ 0)) ⊎ (Holds p × Fails t k i)
Fails (pass n p m t) k i =
    ((i < m) × (k ≡ n) × ((j : ℕ) → j < i → Holds (p j)) × (Holds (p i) → ⊥)) ⊎ (((j : ℕ) → j < m → Holds (p j)) × Fails t k i)
Fails (choose p s t) k i = (Holds p × Fails s k i) ⊎ ((Holds p → ⊥) × Fails t k i)

-- the number alone, of a call that names no entry
abbrev pub Somewhere : (ℕ → ℕ → Type 0) → ℕ → ℕ → Type 0
Somewhere F k i = (i ≡ 0) × ((j : ℕ) × F k j)

-- an answer of this number and index goes by F, which says of a rule and an entry that they are the first at fault
pub record Exact (F : ℕ → ℕ → Type 0) (number index : ℕ) : Type 0 where
  -- a refusal names the first at fault
  pub refused : (number ≡ 0 → ⊥) → F number index
  -- and the first at fault is named by the refusal
  pub told : (k i : ℕ) → F k i → (number ≡ k) × (index ≡ i)
  -- an accepted call has none
  pub none : number ≡ 0 → (k i : ℕ) → F k i → ⊥
