use Prim.Native.Nat.{◌≤◌}
use Rattle.fold_runs.specs.RunsLaws.{Taking}
use Rattle.fold_runs.proofs.take_sheet.Given as goal

abbrev pub invariant-loop-i : goal.invariant-loop-i
invariant-loop-i l = (l.i ≤ l.m) × Taking l.initial.words l.sheet l.r l.words l.seats
