use Prim.Native.Nat.{ℕ, ◌≤◌, ◌<◌}
use lib.ListN.{length}
use mathlib.Core.Path.{◌≡◌}
use Rattle.sheet.specs.ByteAt.{byte_by}
use Rattle.fold_runs.specs.Runs.{Out}
use Rattle.fold_held.proofs.sheet_held.Given as goal

abbrev pub invariant-loop-i : goal.invariant-loop-i
invariant-loop-i l = (l.i ≤ l.m) × (l.at < 1024) × ((k : ℕ) → Out l.words (length l.words) l.top k → byte_by l.sheet l.i k ≡ 0)
