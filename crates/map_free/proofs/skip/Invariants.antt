use Rattle.std.proofs.Common.{◌-◌}
use Rattle.map_free.specs.Look.{Skipping, Swept}
use Rattle.map_free.proofs.skip.Given as goal

abbrev pub invariant-loop-last : goal.invariant-loop-last
invariant-loop-last l = Skipping l.rows l.start l.at × Swept l.rows l.at l.s

abbrev pub decreases-loop-last : goal.decreases-loop-last
decreases-loop-last l = 18446744073709551616 - l.at
