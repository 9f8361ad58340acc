use Prim.Native.Nat.{◌<◌}
use lib.ListN.{length}
use Rattle.fold_bodies.specs.BodiesLaws.{Piling}
use Rattle.fold_bodies.proofs.lay_pile.Given as goal

abbrev pub invariant-loop-sheet : goal.invariant-loop-sheet
invariant-loop-sheet l = (l.met < 1024) × Piling l.pile.bytes.now l.words (length l.words) l.ranks l.sheet-iterator l.fn.out l.out
