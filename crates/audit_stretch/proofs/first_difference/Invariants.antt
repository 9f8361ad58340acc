use Rattle.audit_stretch.specs.Stretch.{SameBytes}
use Prim.Native.Nat.{◌≤◌}
use Rattle.audit_stretch.proofs.first_difference.Given as goal

abbrev pub invariant-loop-k : goal.invariant-loop-k
invariant-loop-k l = (l.from ≤ l.k) × (l.k ≤ l.to) × SameBytes l.a l.b l.from l.k
