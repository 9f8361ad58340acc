use Rattle.audit_fill_window.specs.Near.{Onward}
use Prim.Native.Nat.{◌+◌, ◌-◌, ◌≤◌, ◌<◌}
use Rattle.audit_windows.proofs.next_in.Given as goal

abbrev pub invariant-loop-m : goal.invariant-loop-m
invariant-loop-m l = (l.from ≤ l.m.at) × (l.m.at ≤ l.to) × (l.m.at < l.to → l.m.at + l.m.width ≤ 33554432) × Onward l.marks l.from l.to l.at l.initial.m l.m

abbrev pub decreases-loop-m : goal.decreases-loop-m
decreases-loop-m l = l.to - l.m.at
