use Rattle.audit_fill_window.specs.StandingLaws.{settled_end, settled_at}
use Prim.Native.Nat.{◌-◌}
use mathlib.Core.Path.{refl}
use native.Mathlib.Omega.{arith}
use Rattle.audit_windows.proofs.settle.Goals as goal

pub returns-in-Some : goal.returns-in-Some
returns-in-Some c =
    let a = c.args in
    let (first, less) = c.in-Some.ensures in
    settled_at a.marks.now a.from a.to a.i c.in-Some.j first c.width_at.result c.requires.0 (λ e. omega arith) c.width_at.ensures

pub returns-in-None : goal.returns-in-None
returns-in-None c =
    let a = c.args in
    settled_end a.marks.now a.from a.to a.i (a.to - a.from) c.in-None.ensures c.requires.0 refl
