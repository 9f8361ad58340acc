use Prim.Native.Nat.{◌≤◌}
use Rattle.inside_runs.specs.Runs.{Strewing}
use Rattle.inside_runs.proofs.strewn.Given as goal

abbrev pub invariant-loop-i : goal.invariant-loop-i
invariant-loop-i l = (l.i ≤ l.k) × Strewing l.image l.q l.low l.high l.at l.i l.end l.marks
