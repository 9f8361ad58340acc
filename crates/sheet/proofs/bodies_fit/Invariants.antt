use Rattle.sheet.specs.Sheet.{body_at, end_before, entry_fits}
use Rattle.facts.specs.Fact.{Holds}
use Prim.Native.Nat.{ℕ, ◌+◌, ◌*◌, ◌≤◌, ◌<◌}
use mathlib.Core.Path.{◌≡◌}
use Rattle.sheet.proofs.bodies_fit.Given as goal

abbrev pub invariant-loop-i : goal.invariant-loop-i
invariant-loop-i l = (l.i ≤ l.m) × (l.body ≡ body_at l.sheet l.i) × (l.last ≡ end_before l.sheet l.i) × (l.body ≤ 16 + 8 * l.m + 65535 * l.i) × ((k : ℕ) → k < l.i → Holds (entry_fits l.sheet k))
