use Prim.Native.Nat.{◌-◌}
use Rattle.piece_stretch.specs.Stretch.{after}
use Rattle.piece_list.specs.Filling.{Listing}
use Rattle.piece_list.proofs.list_part.Given as goal

abbrev pub invariant-loop-at : goal.invariant-loop-at
invariant-loop-at g l = Listing g.U.Unit.writing (after l.o l.a) l.shipped l.r l.from l.to l.initial.places l.i l.places l.j l.k

abbrev pub decreases-loop-at : goal.decreases-loop-at
decreases-loop-at g l = l.to - l.k
