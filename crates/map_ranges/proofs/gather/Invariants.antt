use Rattle.std.proofs.Common.{◌-◌, length}
use Rattle.map_ranges.specs.Gathering.{Gathering}
use Rattle.map_ranges.proofs.gather.Given as goal

abbrev pub invariant-loop-s : goal.invariant-loop-s
invariant-loop-s l = Gathering l.dump l.at l.taken l.table

abbrev pub decreases-loop-s : goal.decreases-loop-s
decreases-loop-s l = length l.dump - l.at
