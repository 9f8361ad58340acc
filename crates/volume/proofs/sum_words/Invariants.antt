use Rattle.volume.specs.SumLaws.{sum_turns, Halves}
use Prim.Native.Nat.{◌≤◌}
use Rattle.volume.proofs.sum_words.Given as goal

abbrev pub invariant-loop-t : goal.invariant-loop-t
invariant-loop-t l = (l.t ≤ l.turns) × Halves l.t (sum_turns l.image 4 l.t) l.both
