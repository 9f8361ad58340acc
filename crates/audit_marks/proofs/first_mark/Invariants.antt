use Rattle.audit_marks.specs.Marks.{Clear}
use Prim.Native.Nat.{◌≤◌}
use Rattle.audit_marks.proofs.first_mark.Given as goal

abbrev pub invariant-loop-k : goal.invariant-loop-k
invariant-loop-k l = (l.i ≤ l.k) × (l.k ≤ l.n) × Clear l.marks l.i l.k
