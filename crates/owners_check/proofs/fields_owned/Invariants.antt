use Rattle.owners.specs.Owners.{ranges, owned}
use Rattle.owners.specs.OwnersLaws.{PassedBy}
use Rattle.sheet.specs.Sheet.{offset, size, end_before}
use Rattle.facts.specs.Fact.{Holds, every}
use Prim.Native.Nat.{ℕ, ◌+◌, ◌≤◌, ◌<◌}
use Rattle.owners_check.proofs.fields_owned.Given as goal

abbrev pub invariant-loop-i : goal.invariant-loop-i
invariant-loop-i l = (l.i ≤ l.m) × (l.at ≤ ranges l.owners) × PassedBy l.owners l.at (end_before l.sheet l.i)
    × ((k : ℕ) → k < l.i → Holds (every (size l.sheet k) (λ j. owned l.owners l.owner (offset l.sheet k + j))))
