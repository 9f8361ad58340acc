use Rattle.audit_count.specs.Counting.{Standing, Left}
use Rattle.audit_step.specs.Stride.{by}
use Rattle.audit_fill_window.specs.Near as near
use lib.ListN.{length}
use Prim.Native.Nat.{◌-◌}
use mathlib.Core.Path.{◌≡◌}
use Rattle.audit_count.proofs.walk_all.Given as goal

abbrev pub invariant-loop-t : goal.invariant-loop-t
invariant-loop-t l = Left (by l.vendor l.r l.d.four l.d.eight) l.shipped l.r l.t × Standing l.vendor l.r l.ranks l.t
    × near.Standing l.vendor l.v l.f l.t.at l.q l.marks × (length l.marks ≡ length l.initial.marks)

abbrev pub decreases-loop-t : goal.decreases-loop-t
decreases-loop-t l = length l.vendor - l.t.at
