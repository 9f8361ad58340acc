use Prim.Native.Nat.{◌≤◌, ◌<◌}
use lib.ListN.{length}
use Rattle.fold_bodies.specs.BodiesLaws.{Laying}
use Rattle.fold_bodies.proofs.lay_sheet.Given as goal

abbrev pub invariant-loop-i : goal.invariant-loop-i
invariant-loop-i l = (l.i ≤ l.m) × (l.at < 1024) × Laying l.words (length l.words) l.ranks l.sheet l.i l.fn.out l.out
