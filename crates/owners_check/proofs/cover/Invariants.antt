use Rattle.owners.specs.Owners.{ranges, owned}
use Rattle.owners.specs.OwnersLaws.{PassedBy}
use Rattle.facts.specs.Fact.{Holds}
use Prim.Native.Nat.{ℕ, ◌-◌, ◌≤◌, ◌<◌}
use Rattle.owners_check.proofs.cover.Given as goal

abbrev pub invariant-loop-k : goal.invariant-loop-k
invariant-loop-k l = (l.a ≤ l.k) × (l.at ≤ ranges l.owners) × PassedBy l.owners l.at l.k × PassedBy l.owners l.at l.b × ((j : ℕ) → l.a ≤ j → j < l.k → Holds (owned l.owners l.owner j))

abbrev pub decreases-loop-k : goal.decreases-loop-k
decreases-loop-k l = l.b - l.k
