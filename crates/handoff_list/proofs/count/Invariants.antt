use Prim.Native.Nat.{◌-◌}
use lib.ListN.{length}
use Rattle.handoff_list.specs.Counting.{Counting}
use Rattle.handoff_list.proofs.count.Given as goal

abbrev pub invariant-loop-s : goal.invariant-loop-s
invariant-loop-s l = Counting l.buffer l.at l.count

abbrev pub decreases-loop-s : goal.decreases-loop-s
decreases-loop-s l = length l.buffer - l.at
