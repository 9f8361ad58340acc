use Rattle.std.specs.Prelude.{not}
use Rattle.std.proofs.Common.{ap}
use Rattle.fold_tally.specs.TallyLaws.{skipped_none, skipped_on}
use Prim.Native.Nat.{◌+◌}
use borrow.Author.Tests.{not-false}
use native.Mathlib.Omega.{arith}
use Rattle.fold_tally.proofs.skip.Goals as goal

pub loop-k-init : goal.loop-k-init
loop-k-init c = skipped_none _ _ c.requires

pub overflow_sub-cells : goal.overflow_sub-cells
overflow_sub-cells c = omega (arith, c.loop-k.invariant.within)

pub returns-then-not-sixteen : goal.returns-then-not-sixteen
returns-then-not-sixteen c = c.loop-k.invariant

pub loop-k-preserved : goal.loop-k-preserved
loop-k-preserved c =
    let L = c.loop-k in
    skipped_on _ _ L.k (L.k + 16) L.invariant (omega (arith, L.invariant.within)) (omega arith)
    (c.sixteen.ensures (not-false c.sixteen.result (ap not c.if-not-sixteen.false)))

pub returns : goal.returns
returns c = c.loop-k.invariant
