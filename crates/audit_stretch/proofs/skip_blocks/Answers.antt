use Rattle.std.specs.Prelude.{not}
use Rattle.std.proofs.Common.{ap}
use Rattle.audit_stretch.specs.StretchLaws.{same_join}
use borrow.Author.Tests.{not-false}
use Prim.Native.Nat.{◌+◌}
use native.Mathlib.Omega.{arith}
use Rattle.audit_stretch.proofs.skip_blocks.Goals as goal

pub loop-k-init : goal.loop-k-init
loop-k-init c = (omega arith, omega arith, λ i h l. absurd (omega arith))

pub returns-then-not-same_block : goal.returns-then-not-same_block
returns-then-not-same_block c = c.loop-k.invariant

pub loop-k-preserved : goal.loop-k-preserved
loop-k-preserved c =
    let L = c.loop-k in
    let a = c.args in (
      omega arith,
      omega arith,
      same_join a.a.now a.b.now a.from L.k (L.k + 32) L.invariant.2
          (c.same_block.ensures (not-false c.same_block.result (ap not c.if-not-same_block.false))),
    )

pub returns : goal.returns
returns c = c.loop-k.invariant
