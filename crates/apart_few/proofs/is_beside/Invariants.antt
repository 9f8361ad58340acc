use Prim.Native.Nat.{ℕ, ◌<◌}
use Rattle.facts.specs.Fact.{Holds}
use Rattle.table.specs.Passes.{place}
use Rattle.items.specs.Judged.{off}
use Rattle.apart_few.proofs.is_beside.Given as goal

abbrev pub invariant-loop-i : goal.invariant-loop-i
invariant-loop-i l = (j : ℕ) → j < l.i → Holds (off (place l.image l.t j).at 4 l.x)
