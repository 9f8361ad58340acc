use Rattle.std.specs.Prelude.{not}
use Rattle.std.proofs.Common.{ap}
use Rattle.inside_places.specs.Places.{te_holds, shifted}
use Rattle.facts.specs.FactLaws.{passes, fails, granted, refuted}
use native.Mathlib.Omega.{arith}
use Rattle.inside_places.proofs.shift.Goals as goal

pub returns-then-not-te_holds : goal.returns-then-not-te_holds
unfolding shifted
returns-then-not-te_holds c =
    let a = c.args in
    (rw (fails (te_holds a.m a.rva a.k) (refuted c.te_holds.ensures (ap not c.if-not-te_holds.true))), omega arith, omega arith)

pub overflow_sub-result : goal.overflow_sub-result
overflow_sub-result c = omega (arith, (granted c.te_holds.ensures (ap not c.if-not-te_holds.false)).0)

pub returns : goal.returns
unfolding shifted
returns c =
    let a = c.args in
    (rw (passes (te_holds a.m a.rva a.k) (granted c.te_holds.ensures (ap not c.if-not-te_holds.false))), omega (arith, (granted c.te_holds.ensures (ap not c.if-not-te_holds.false))), omega arith)
