-- Request #108: what is said of boot logs.
-- Assumes nothing.
use Rattle.std.specs.Prelude.{ℕ, List, [], ◌∷◌, ◌++◌, map, ◌≡◌}
use Rattle.station_order.specs.Order.{at_reset, notifiedF0}
use Rattle.station.specs.declared.Station.{Station}
use Rattle.station.specs.Station.{standing}
use Rattle.station_logs.specs.Log.{Call, made, Accepts, after, answers}
use Rattle.station_logs.specs.Log.{Entry, called, reset, turn, log_after, log_answers}
use Rattle.station_logs.specs.Grammar.{FromReset}

-- ---- the record after any sequence of calls and resets is the fold of the step, and the answers are the steps'

pub record Folds (s : Station) (l : List Entry) (rs : List ℕ) (u : Station) : Type 0 where
  pub record_is : u ≡ standing (log_after s.state l)
  pub answers_are : rs ≡ log_answers s.state l

pub record AsIfNotMade (state : ℕ) (l : List Call) (c : Call) (m : List Call) : Type 0 where
  pub with_it : answers state (l ++ (c ∷ m)) ≡ answers state l ++ ((made (after state l) c).number ∷ answers (after state l) m)
  pub without : answers state (l ++ m) ≡ answers state l ++ answers (after state l) m
  pub same_state : after state (l ++ (c ∷ m)) ≡ after state (l ++ m)

pub record Ended (state : ℕ) : Type 0 where
  pub last : state ≡ notifiedF0
  pub refused : (d : Call) → Accepts state d → ⊥
  pub but_reset : turn state reset ≡ at_reset

-- ---- a log of several boots, a reset before each

abbrev pub boots : List (List Call) → List Entry
boots [] = []
boots (l ∷ ls) = reset ∷ (map called l ++ boots ls)

abbrev pub EachFromReset : List (List Call) → Type 0
EachFromReset [] = Unit {0}
EachFromReset (l ∷ ls) = FromReset l × EachFromReset ls
