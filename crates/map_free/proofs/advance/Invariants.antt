use Rattle.std.proofs.Common.{◌-◌, length}
use Rattle.map_free.specs.Look.{Swept}
use Rattle.map_free.proofs.advance.Given as goal

abbrev pub invariant-loop-s : goal.invariant-loop-s
invariant-loop-s l = Swept l.rows l.x l.s

abbrev pub decreases-loop-s : goal.decreases-loop-s
decreases-loop-s l = length l.rows - l.s.i
