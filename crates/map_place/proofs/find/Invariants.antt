use Rattle.std.proofs.Common.{◌-◌}
use Rattle.map_free.specs.Look.{Swept}
use Rattle.map_place.specs.PlaceLaws.{Finding}
use Rattle.map_place.proofs.find.Given as goal

abbrev pub invariant-loop-s : goal.invariant-loop-s
invariant-loop-s l = Finding l.rows l.size l.at × Swept l.rows l.at l.sweep

abbrev pub decreases-loop-s : goal.decreases-loop-s
decreases-loop-s l = 18446744073709551616 - l.at
