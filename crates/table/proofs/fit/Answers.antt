use Rattle.facts.specs.Fact.{◌≤?◌}
use Rattle.facts.specs.FactLaws.{passes, fails}
use Prim.Native.Nat.{◌+◌}
use native.Mathlib.Omega.{arith}
use Rattle.table.proofs.fit.Goals as goal

pub returns-then-size-lt4 : goal.returns-then-size-lt4
returns-then-size-lt4 c = let a = c.args in rw (fails (a.at + 4 ≤? a.size) (λ h. omega arith)) c.refused_place.ensures

pub returns-then-size-at : goal.returns-then-size-at
returns-then-size-at c = let a = c.args in rw (fails (a.at + 4 ≤? a.size) (λ h. omega arith)) c.refused_place-then-size-at.ensures

pub returns : goal.returns
returns c = let a = c.args in rw (passes (a.at + 4 ≤? a.size) (omega arith))
