use Rattle.std.proofs.Common.{◌-◌}
use Rattle.map_free.specs.Look.{Extending, Swept}
use Rattle.map_free.proofs.extend.Given as goal

abbrev pub invariant-loop-last : goal.invariant-loop-last
invariant-loop-last l = Extending l.rows l.first l.last × Swept l.rows l.last l.s

abbrev pub decreases-loop-last : goal.decreases-loop-last
decreases-loop-last l = 18446744073709551616 - l.last
