use Rattle.std.proofs.Common.{ℕ, ◌<◌}
use Rattle.sheet.specs.Sheet.{field_fits}
use Rattle.facts.specs.Fact.{Holds}
use Rattle.sheet.proofs.Sheet.fields_fit.Given as goal

abbrev pub invariant-loop-i : goal.invariant-loop-i
invariant-loop-i l = (k : ℕ) → k < l.i → Holds (field_fits l.self l.z k)
