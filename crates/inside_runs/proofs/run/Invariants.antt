use Prim.Native.Nat.{◌≤◌}
use Rattle.inside_runs.specs.Runs.{Lain}
use Rattle.inside_runs.proofs.run.Given as goal

abbrev pub invariant-loop-i : goal.invariant-loop-i
invariant-loop-i l = (l.i ≤ l.k) × Lain l.image l.q l.low l.high l.at l.i l.end
