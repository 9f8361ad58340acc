use Rattle.audit_list.specs.Filling.{Filled}
use Rattle.audit_step.specs.Stride.{by}
use Rattle.audit_tables.specs.Ahead.{Known}
use Rattle.audit_fill_window.specs.Near as near
use lib.ListN.{length}
use Prim.Native.Nat.{◌-◌}
use mathlib.Core.Path.{◌≡◌}
use Rattle.audit_list.proofs.fill_walk.Given as goal

abbrev pub invariant-loop-f : goal.invariant-loop-f
invariant-loop-f g l = Filled g.U.Unit.writing (by l.vendor l.r l.d.four l.d.eight) l.shipped l.r l.initial.places
    l.places l.initial.f l.f × Known l.vendor l.r l.ranks l.f.at l.f.ahead × near.Standing l.vendor l.v l.h l.f.at l.q l.marks × (length l.marks ≡ length l.initial.marks)

abbrev pub decreases-loop-f : goal.decreases-loop-f
decreases-loop-f g l = length l.vendor - l.f.at
