use Rattle.table.specs.Passes.{unrefused}
use Rattle.facts.specs.Fact.{Holds}
use Prim.Native.Nat.{ℕ, ◌<◌}
use Rattle.table_scans.proofs.first_refused.Given as goal

abbrev pub invariant-loop-i : goal.invariant-loop-i
invariant-loop-i l = (k : ℕ) → k < l.i → Holds (unrefused l.number l.image l.t k)
