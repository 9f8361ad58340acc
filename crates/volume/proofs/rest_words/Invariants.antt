use Rattle.volume.specs.SumLaws.{sum_from}
use Prim.Native.Nat.{◌≤◌, ◌*◌}
use mathlib.Core.Path.{◌≡◌}
use Rattle.volume.proofs.rest_words.Given as goal

abbrev pub invariant-loop-j : goal.invariant-loop-j
invariant-loop-j l = (l.j ≤ l.k) × (l.sum ≡ sum_from l.image l.i l.j) × (l.sum ≤ 65535 * l.j)
