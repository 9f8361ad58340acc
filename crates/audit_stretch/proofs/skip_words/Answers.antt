use Rattle.audit_stretch.specs.StretchLaws.{same_join}
use Prim.Native.Nat.{◌+◌}
use native.Mathlib.Omega.{arith}
use Rattle.audit_stretch.proofs.skip_words.Goals as goal

pub loop-k-init : goal.loop-k-init
loop-k-init c = (omega arith, omega arith, λ i h l. absurd (omega arith))

pub returns-then-turned-ne0 : goal.returns-then-turned-ne0
returns-then-turned-ne0 c = c.loop-k.invariant

pub loop-k-preserved : goal.loop-k-preserved
loop-k-preserved c =
    let L = c.loop-k in
    let a = c.args in (
      omega arith,
      omega arith,
      same_join a.a.now a.b.now a.from L.k (L.k + 8) L.invariant.2
          (c.turned.ensures c.if-turned-ne0.false),
    )

pub returns : goal.returns
returns c = c.loop-k.invariant
