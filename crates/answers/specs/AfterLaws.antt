-- What a call after a reading gives where the reading is accepted, and where it is refused.
-- Assumes nothing.
use Rattle.std.specs.Prelude.{ℕ, List, ◌≡◌}
use Rattle.std.proofs.Common.{eq-eqb, ne_eqb}
use Rattle.facts.specs.Rules.{Rules, run}
use Rattle.answers.specs.declared.Reading.{Reading}
use Rattle.answers.specs.After.{after_reading, unless_refused}

pub changed_so : (number : ℕ) (changed xs : List ℕ) → number ≡ 0 → unless_refused number changed xs ≡ changed
unfolding unless_refused
changed_so number changed xs e = rw (eq-eqb number 0 e)

pub kept_so : (number : ℕ) (changed xs : List ℕ) → (number ≡ 0 → ⊥) → unless_refused number changed xs ≡ xs
unfolding unless_refused
kept_so number changed xs e = rw (ne_eqb number 0 e)

pub after_accepted : {A : Type 0} (refuse : ℕ → ℕ → A) (r : Reading) (t : Rules A) → r.number ≡ 0 → after_reading refuse r t ≡ run refuse t
unfolding after_reading
after_accepted refuse r t e = rw (eq-eqb r.number 0 e)

pub after_refused : {A : Type 0} (refuse : ℕ → ℕ → A) (r : Reading) (t : Rules A) → (r.number ≡ 0 → ⊥)
    → after_reading refuse r t ≡ refuse r.number r.index
unfolding after_reading
after_refused refuse r t e = rw (ne_eqb r.number 0 e)
