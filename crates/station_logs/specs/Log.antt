-- Request #108: a boot log, its answers and the state after it.
-- Assumes nothing.
use Rattle.std.specs.Prelude.{ℕ, ◌≡◌, List, [], ◌∷◌}
use mathlib.Core.List.{foldl}
use Rattle.station_order.specs.declared.Answer.{Answer}
use Rattle.station_order.specs.Order.{at_reset, noted, ordered}
use Rattle.station.specs.declared.Station.{Station}
use Rattle.station.specs.Station.{Calls, Resets}

-- a call with its notification
pub record Call : Type 0 where
  pub call : ℕ
  pub notification : ℕ

-- the step that it makes
abbrev pub made : ℕ → Call → Answer
made state c = ordered state c.call c.notification

abbrev pub next : ℕ → Call → ℕ
next state c = (made state c).state

abbrev pub Accepts : ℕ → Call → Type 0
Accepts state c = (made state c).number ≡ 0

-- two calls are one call with one notification, where that of a call which has none isn't looked at
abbrev pub Same : Call → Call → Type 0
Same c d = (c.call ≡ d.call) × (noted c.call c.notification ≡ noted d.call d.notification)

-- ---- calls between two resets

-- the state after them: the fold of the step
abbrev pub after : ℕ → List Call → ℕ
after = foldl next

-- their answers, one for each
unfoldable pub answers : ℕ → List Call → List ℕ
answers state [] = []
answers state (c ∷ l) = (made state c).number ∷ answers (next state c) l

abbrev pub Zeros : List ℕ → Type 0
Zeros [] = Unit {0}
Zeros (k ∷ l) = (k ≡ 0) × Zeros l

-- none of them is refused
abbrev pub NoRefusal : ℕ → List Call → Type 0
NoRefusal state l = Zeros (answers state l)

-- ---- a log with its resets

pub data Entry : Type 0 where
  called : Call → Entry
  reset : Entry

abbrev pub turn : ℕ → Entry → ℕ
turn state (called c) = next state c
turn state reset = at_reset

abbrev pub log_after : ℕ → List Entry → ℕ
log_after = foldl turn

-- a reset has no answer
unfoldable pub log_answers : ℕ → List Entry → List ℕ
log_answers state [] = []
log_answers state (called c ∷ l) = (made state c).number ∷ log_answers (next state c) l
log_answers state (reset ∷ l) = log_answers at_reset l

-- the station's own calls over one record, one after the other: each leaves the record and gives the answer as it promises
pub data Runs : Station → List Entry → List ℕ → Station → Type 0 where
  none : {s : Station} → Runs s [] [] s
  by_call : {s t u : Station} {c : Call} {r : ℕ} {l : List Entry} {rs : List ℕ} → Calls c.call c.notification s r t → Runs t l rs u
      → Runs s (called c ∷ l) (r ∷ rs) u
  by_reset : {s t u : Station} {l : List Entry} {rs : List ℕ} → Resets t → Runs t l rs u → Runs s (reset ∷ l) rs u
