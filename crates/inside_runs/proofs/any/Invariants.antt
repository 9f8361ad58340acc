use Prim.Native.Nat.{◌≤◌}
use Rattle.inside_runs.specs.Runs.{AnyIn}
use Rattle.inside_runs.proofs.any.Given as goal

abbrev pub invariant-loop-i : goal.invariant-loop-i
invariant-loop-i l = (l.i ≤ l.k) × AnyIn l.image l.q l.at l.i
