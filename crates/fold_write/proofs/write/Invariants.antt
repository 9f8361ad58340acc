use Rattle.fold_write.specs.WriteLaws.{Now}
use Rattle.fold_cells.specs.SetAt.{set_at}
use Rattle.fold_pile.specs.Pile.{sheets}
use Prim.Native.Nat.{◌-◌, ◌≤◌}
use lib.ListN.{length}
use mathlib.Core.Path.{◌≡◌}
use Rattle.fold_write.proofs.write.Given as goal

abbrev pub invariant-loop-at : goal.invariant-loop-at
invariant-loop-at l = Now l.m (set_at (sheets l.pile.bytes.now)) l.initial.out l.at l.t l.out × (l.at ≤ 4295098367) × (length l.cells ≡ length l.initial.cells) × (length l.out ≡ length l.initial.out)

abbrev pub decreases-loop-at : goal.decreases-loop-at
decreases-loop-at l = 4295098367 - l.at
