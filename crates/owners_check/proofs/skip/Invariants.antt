use Rattle.owners.specs.OwnersLaws.{PassedBy}
use Prim.Native.Nat.{◌≤◌}
use Rattle.owners_check.proofs.skip.Given as goal

abbrev pub invariant-loop-i : goal.invariant-loop-i
invariant-loop-i l = (l.i ≤ l.n) × PassedBy l.owners l.i l.k
