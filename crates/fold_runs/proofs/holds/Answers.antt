use mathlib.Core.Bool.{false≢true}
use Rattle.fold_runs.proofs.holds.Goals as goal

pub returns-then-words-i : goal.returns-then-words-i
returns-then-words-i c =
    λ e. absurd (false≢true e)

pub returns-then-a-start : goal.returns-then-a-start
returns-then-a-start c =
    λ e. absurd (false≢true e)

pub returns-then-start-size_of : goal.returns-then-start-size_of
returns-then-start-size_of c =
    λ e. absurd (false≢true e)
