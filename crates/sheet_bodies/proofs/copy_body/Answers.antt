use Rattle.std.specs.Prelude.{◌≡◌, refl}
use Rattle.std.proofs.Common.{add-one, length-set, arith}
use Rattle.sheet_bodies.specs.Set.{copied}
use Rattle.sheet_bodies.proofs.copy_body.Goals as goal

pub loop-k-init : goal.loop-k-init
unfolding copied
loop-k-init c = (refl, refl)

pub loop-k-preserved : goal.loop-k-preserved
unfolding copied
loop-k-preserved c = let L = c.loop-k in (rw (add-one, ← L.invariant.0), simp length-set (omega (arith, L.invariant.1)))

pub returns : goal.returns
returns c =
    let e : c.loop-k.k ≡ c.args.n = omega arith in
    rw e at c.loop-k.invariant.0
