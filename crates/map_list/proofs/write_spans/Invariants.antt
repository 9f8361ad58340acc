use Rattle.std.proofs.Common.{◌-◌}
use Rattle.map_free.specs.Look.{Swept}
use Rattle.map_list.specs.MapLaws.{Listing}
use Rattle.map_list.proofs.write_spans.Given as goal

abbrev pub invariant-loop-s : goal.invariant-loop-s
invariant-loop-s l = Listing l.rows l.initial.out l.at l.count l.out × Swept l.rows l.at l.sweep

abbrev pub decreases-loop-s : goal.decreases-loop-s
decreases-loop-s l = 18446744073709551616 - l.at
