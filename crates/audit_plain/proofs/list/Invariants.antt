use Prim.Native.Nat.{◌-◌}
use lib.ListN.{length}
use Rattle.audit_plain.specs.PlainLaws.{Listing}
use Rattle.audit_plain.proofs.list.Given as goal

abbrev pub invariant-loop-at : goal.invariant-loop-at
invariant-loop-at g l = Listing l.vendor l.shipped g.U.Unit.writing l.initial.places l.places l.i l.k

abbrev pub decreases-loop-at : goal.decreases-loop-at
decreases-loop-at g l = length l.shipped - l.k
