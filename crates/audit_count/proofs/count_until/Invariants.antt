use Rattle.audit_count.specs.Counting.{Standing, Left}
use Rattle.audit_step.specs.Stride.{by}
use Prim.Native.Nat.{◌-◌, ◌≤◌}
use Rattle.audit_count.proofs.count_until.Given as goal

abbrev pub invariant-loop-u : goal.invariant-loop-u
invariant-loop-u l = Left (by l.vendor l.r l.d.four l.d.eight) l.shipped l.r l.u × Standing l.vendor l.r l.ranks l.u × (l.initial.u.at ≤ l.u.at)

abbrev pub decreases-loop-u : goal.decreases-loop-u
decreases-loop-u l = l.end - l.u.at
