use Prim.Native.Nat.{◌-◌}
use lib.ListN.{length}
use Rattle.audit_plain.specs.PlainLaws.{Counting}
use Rattle.audit_plain.proofs.count.Given as goal

abbrev pub invariant-loop-at : goal.invariant-loop-at
invariant-loop-at l = Counting l.vendor l.shipped l.n l.k

abbrev pub decreases-loop-at : goal.decreases-loop-at
decreases-loop-at l = length l.shipped - l.k
