use Rattle.fold_tally.specs.Tally.{tally_to}
use Rattle.fold_cells.specs.SetAt.{set_at}
use Rattle.fold_pile.specs.Pile.{sheets}
use Prim.Native.Nat.{◌-◌, ◌≤◌}
use lib.ListN.{length}
use mathlib.Core.Path.{◌≡◌}
use Rattle.fold_tally.proofs.count.Given as goal

abbrev pub invariant-loop-at : goal.invariant-loop-at
invariant-loop-at l = (l.t ≡ tally_to (set_at (sheets l.pile.bytes.now)) l.at) × (l.at ≤ 4295098367) × (length l.cells ≡ length l.initial.cells)

abbrev pub decreases-loop-at : goal.decreases-loop-at
decreases-loop-at l = 4295098367 - l.at
