-- Request #108, the station: its state is the number that the first eight bytes hold.
-- Assumes nothing.
use Rattle.std.specs.Prelude.{ℕ, cond, List}
use Rattle.facts.specs.Fact.{◌≤?◌, test}
use Rattle.words.specs.Le.{le}
use Rattle.words.specs.Put.{put}
use Rattle.answers.specs.After.{unless_refused}
use Rattle.station_order.specs.declared.Answer.{Answer}
use Rattle.station_order.specs.Order.{ordered}

-- the answer of the step in that state
abbrev pub stationed : List ℕ → ℕ → ℕ → Answer
stationed xs call n = ordered (le 8 xs 0) call n

-- the bytes afterwards, where there are eight: the next state, and what followed it; a refused call changes none
abbrev pub station_bytes : List ℕ → ℕ → ℕ → List ℕ
station_bytes xs call n = unless_refused (stationed xs call n).number (put 8 xs 0 (stationed xs call n).state) xs

-- the state that a record of 32 bits stands in for the number w
abbrev pub state_of : ℕ → ℕ
state_of w = cond (test (w ≤? 4294967295)) w 4294967295
