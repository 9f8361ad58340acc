use Prim.Native.Nat.{◌-◌, ◌≤◌}
use Rattle.piece_stretch.specs.Stretch.{after}
use Rattle.piece_count.specs.Counting.{Adds}
use Rattle.piece_count.proofs.count_part.Given as goal

abbrev pub invariant-loop-at : goal.invariant-loop-at
invariant-loop-at l = (l.from ≤ l.k) × (l.k ≤ l.to) × Adds (after l.o l.a) l.shipped l.r l.from l.k l.initial.u l.u

abbrev pub decreases-loop-at : goal.decreases-loop-at
decreases-loop-at l = l.to - l.k
