use Rattle.table.specs.Passes.{place, apart, clear}
use Rattle.facts.specs.Fact.{Holds}
use Prim.Native.Nat.{ℕ, ◌+◌, ◌*◌, ◌≤◌, ◌<◌}
use Rattle.table_scans.proofs.first_overlap.Given as goal

abbrev pub invariant-loop-i : goal.invariant-loop-i
invariant-loop-i l = ((k : ℕ) → k < l.i → Holds (clear l.image l.t (l.t + 4 * l.n) l.c l.z k)) × ((k : ℕ) → k < l.i → (place l.image l.t k).at + 4 ≤ l.high)

abbrev pub invariant-loop-j : goal.invariant-loop-j
invariant-loop-j l = (l.j ≤ l.i) × ((k : ℕ) → k < l.j → Holds (apart (place l.image l.t l.i).at (place l.image l.t k).at))
