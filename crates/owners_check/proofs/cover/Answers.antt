use Rattle.owners.specs.OwnersLaws.{passed_on, hasn't}
use Rattle.std.specs.Prelude.{List, Option, None, is_some}
use Rattle.facts.specs.Fact.{Holds, Tells, every}
use Rattle.owners.specs.Owners.{ranges, owned}
use Prim.Native.Nat.{ℕ, ◌+◌, ◌-◌, ◌≤◌, ◌<◌}
use mathlib.Core.Path.{◌≡◌}
use native.Mathlib.Decide.{dec_lt}
use native.Mathlib.Omega.{arith}
use Rattle.owners_check.proofs.cover.Goals as goal

pub loop-k-init : goal.loop-k-init
loop-k-init c =
    let p = c.requires in
    (omega arith, p.1, p.2, passed_on _ _ _ _ p.2 p.0, λ j h l. absurd (omega arith))

pub skip-requires : goal.skip-requires
skip-requires c =
    let L = c.loop-k in
    let good = c.requires.3.1 in
    (good.1.0, L.invariant.1, L.invariant.2)

pub run_from-requires : goal.run_from-requires
run_from-requires c =
    let good = c.requires.3 in
    let reached = c.in_ok-at.ensures in
    (good.1.1.0, reached.0, reached.1, good)

-- a byte that isn't the owner's
astray : (o : List ℕ) (owner a b k : ℕ) (r : Option ℕ) → r ≡ None → a ≤ k → k < b → (Holds (owned o owner k) → ⊥)
    → Tells (is_some r) (every (b - a) (λ j. owned o owner (a + j)))
astray o owner a b k r e low high not =
    rw e (record { says = λ h. let at : a + (k - a) ≡ k = omega arith in not (rw at at (h (k - a) (omega arith))) })

pub returns-in_err-at-clause-tells : goal.returns-in_err-at-clause-tells
returns-in_err-at-clause-tells c =
    let L = c.loop-k in
    let a = c.args in
    let good = c.requires.3 in
    astray a.owners.now a.owner a.a a.b L.k c.from_residual.result c.from_residual.ensures L.invariant.0 c.loop-k-test.true
    (hasn't a.owners.now good.0 good.1 a.owner L.k (ranges a.owners.now) c.in_err-at.ensures (λ h. absurd (omega arith)))

pub returns-in_err-k-clause-tells : goal.returns-in_err-k-clause-tells
returns-in_err-k-clause-tells c =
    let L = c.loop-k in
    let a = c.args in
    astray a.owners.now a.owner a.a a.b L.k c.from_residual-in_err-k.result c.from_residual-in_err-k.ensures L.invariant.0 c.loop-k-test.true
    c.in_err-k.ensures

pub loop-k-smaller : goal.loop-k-smaller
loop-k-smaller c = omega (arith, c.in_ok-k.ensures.0)

pub loop-k-preserved : goal.loop-k-preserved
loop-k-preserved c =
    let L = c.loop-k in
    let reached = c.in_ok-at.ensures.0 in
    let runs = c.in_ok-k.ensures in (
      omega (arith, runs.0),
      reached.within,
      passed_on _ _ _ _ reached.passed (omega (arith, runs.0)),
      passed_on _ _ _ _ reached.passed (omega arith),
      λ j from to. elim (dec_lt j L.k) [ yes h ↦ L.invariant.4 j from h | no h ↦ runs.2 j (omega arith) to ],
    )

pub returns : goal.returns
returns c =
    let L = c.loop-k in
    record { tells = record { says = λ j h. L.invariant.4 _ (omega arith) (omega arith) }; at_bound = (L.invariant.1, L.invariant.3) }
