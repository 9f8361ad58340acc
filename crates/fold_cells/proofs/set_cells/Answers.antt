use Rattle.fold_cells.specs.Cells.{celled}
use lib.ListN.{get_or, length-set}
use Prim.Native.Nat.{◌+◌}
use mathlib.Core.Path.{◌≡◌, refl}
use native.Mathlib.Numerals.{add-one}
use native.Mathlib.Omega.{arith}
use Rattle.fold_cells.proofs.set_cells.Goals as goal

pub loop-k-init : goal.loop-k-init
unfolding celled
loop-k-init c = (omega arith, refl, refl)

pub loop-k-preserved : goal.loop-k-preserved
unfolding celled
loop-k-preserved c =
    let e : c.from.result ≡ get_or c.args.sheet.now (c.args.from + c.loop-k.k) 0 = omega (arith, c.from.ensures) in
    (omega arith, rw (add-one, add-one, ← c.loop-k.invariant.1, e), simp length-set (omega arith))

pub returns : goal.returns
returns c =
    let e : c.loop-k.k ≡ c.args.n = omega arith in
    rw e at c.loop-k.invariant.1
