use mathlib.Core.Path.{◌≡◌}
use native.Mathlib.Decide.{dec_lt}
use native.Mathlib.Omega.{arith}
use Rattle.audit_stretch.proofs.first_difference.Goals as goal

pub loop-k-init : goal.loop-k-init
loop-k-init c = c.skip-k.ensures

pub returns-then-b-k : goal.returns-then-b-k
returns-then-b-k c =
    let L = c.loop-k in
    (record { onward = L.invariant.0; most = omega arith; clear = L.invariant.2; found = λ h e. c.if-b-k.true e }, omega arith)

pub loop-k-preserved : goal.loop-k-preserved
loop-k-preserved c =
    let L = c.loop-k in (
      omega arith,
      omega arith,
      λ i h l.
          elim (dec_lt i L.k) [
            | yes g ↦ L.invariant.2 i h g
            | no g ↦ let s : i ≡ L.k = omega arith in rw s c.if-b-k.false
          ],
    )

pub returns : goal.returns
returns c =
    let L = c.loop-k in
    let e : L.k ≡ c.args.to = omega arith in
    rw e at L.invariant.2
