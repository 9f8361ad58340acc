use Prim.Native.Nat.{◌*◌, ◌≤◌}
use lib.ListN.{length}
use mathlib.Core.Path.{◌≡◌}
use Rattle.fold_ranks.specs.Ranks.{sum_to, Summed}
use Rattle.fold_ranks.proofs.rank.Given as goal

abbrev pub invariant-loop-i : goal.invariant-loop-i
invariant-loop-i l = (l.sum ≡ sum_to l.words l.i) × (l.sum ≤ 65536 * l.i) × Summed l.words l.i l.ranks × (length l.ranks ≡ length l.fn.ranks)
