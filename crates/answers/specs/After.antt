-- A call that reads an image first: the image's refusals, then its own rules.
-- Assumes nothing.
use Rattle.std.specs.Prelude.{ℕ, cond, List, eqb}
use Rattle.facts.specs.Rules.{Rules, run}
use Rattle.answers.specs.declared.Reading.{Reading}

-- the answer where r is the reading and t the rules that follow it
unfoldable pub after_reading : {A : Type 0} → (ℕ → ℕ → A) → Reading → Rules A → A
after_reading refuse r t = cond (eqb r.number 0) (run refuse t) (refuse r.number r.index)

-- a refused call changes nothing: the list afterwards, where the answer has this number
unfoldable pub unless_refused : ℕ → List ℕ → List ℕ → List ℕ
unless_refused number changed xs = cond (eqb number 0) changed xs
