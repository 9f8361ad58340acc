use Prim.Native.Nat.{◌<◌}
use lib.ListN.{length}
use Rattle.fold_runs.specs.Runs.{Out}
use Rattle.fold_held.specs.HeldLaws.{Sought}
use Rattle.fold_held.proofs.all_held.Given as goal

abbrev pub invariant-loop-sheet : goal.invariant-loop-sheet
invariant-loop-sheet l = (l.met < 1024) × Sought l.pile.bytes.now (Out l.words (length l.words) l.top) l.sheet-iterator
