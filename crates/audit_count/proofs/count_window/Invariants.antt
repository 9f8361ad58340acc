use Rattle.audit_count.specs.Windows.{Within, at_word}
use Rattle.audit_count.specs.Counting.{Standing, Left}
use Rattle.audit_step.specs.Stride.{by}
use lib.ListN.{length}
use Prim.Native.Nat.{◌-◌, ◌≤◌}
use Rattle.audit_count.proofs.count_window.Given as goal

abbrev pub invariant-loop-m : goal.invariant-loop-m
invariant-loop-m l = Left (by l.vendor l.r l.d.four l.d.eight) l.shipped l.r l.u × Standing l.vendor l.r l.ranks l.u
    × Within l.vendor l.r l.marks l.u.at (at_word l.q l.m) × (l.initial.u.at ≤ l.u.at)

abbrev pub decreases-loop-m : goal.decreases-loop-m
decreases-loop-m l = length l.vendor - l.u.at
