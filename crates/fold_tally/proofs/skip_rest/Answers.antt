use Rattle.fold_tally.specs.TallyLaws.{skipped_none, skipped_one}
use Prim.Native.Nat.{◌-◌}
use lib.ListN.{length}
use mathlib.Core.Path.{◌≡◌}
use native.Mathlib.Omega.{arith}
use Rattle.fold_tally.proofs.skip_rest.Goals as goal

pub loop-k-init : goal.loop-k-init
loop-k-init c = skipped_none _ _ c.requires

pub returns-then-cells-k-ne0 : goal.returns-then-cells-k-ne0
returns-then-cells-k-ne0 c = c.loop-k.invariant

pub loop-k-preserved : goal.loop-k-preserved
loop-k-preserved c =
    let L = c.loop-k in
    skipped_one _ _ L.k L.invariant c.if-cells-k-ne0.false (omega (arith, L.invariant.within))

pub returns : goal.returns
returns c =
    let e : c.loop-k.k ≡ length c.args.cells.now - 1 = omega (arith, c.loop-k.invariant.within, c.loop-k.invariant.on) in
    rw e at c.loop-k.invariant
