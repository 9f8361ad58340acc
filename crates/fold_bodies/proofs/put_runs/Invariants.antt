use lib.ListN.{length}
use mathlib.Core.Path.{◌≡◌}
use Rattle.fold_bodies.specs.Bodies.{runs_to}
use Rattle.fold_bodies.proofs.put_runs.Given as goal

abbrev pub invariant-loop-i : goal.invariant-loop-i
invariant-loop-i l = l.out ≡ runs_to l.words l.ranks (length l.words) l.i l.fn.out
