use Rattle.owners.specs.Owners.{range_at, range_from, range_fits}
use Rattle.facts.specs.Fact.{Holds}
use Prim.Native.Nat.{ℕ, ◌≤◌, ◌<◌}
use mathlib.Core.Path.{◌≡◌}
use Rattle.owners.proofs.list_fits.Given as goal

abbrev pub invariant-loop-i : goal.invariant-loop-i
invariant-loop-i l = (l.i ≤ l.n) × (l.from ≡ range_from l.owners l.i) × ((k : ℕ) → k < l.i → Holds (range_fits (range_at l.owners k) (range_from l.owners k) l.z))
