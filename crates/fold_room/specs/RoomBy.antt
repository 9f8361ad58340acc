-- Document 02, #114: 29 by what was counted.
-- Assumes nothing.
use Rattle.std.specs.Prelude.{ℕ, ◌+◌, ◌*◌}
use Rattle.facts.specs.Fact.{Fact, ◌≤?◌, ◌and◌}
use Rattle.fold_tally.specs.declared.Tally.{Tally}

abbrev pub room_by : Tally → ℕ → Fact
room_by t room = t.runs ≤? 256 and 16 + 8 * t.runs + t.bytes ≤? 65535 and 16 + 8 * t.runs + t.bytes ≤? room
