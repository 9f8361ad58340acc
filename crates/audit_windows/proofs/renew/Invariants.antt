use Rattle.audit_fill_window.specs.Near.{Standing}
use Prim.Native.Nat.{◌-◌, ◌≤◌}
use mathlib.Core.Path.{◌≡◌}
use lib.ListN.{length}
use Rattle.audit_windows.proofs.renew.Given as goal

abbrev pub invariant-loop-r : goal.invariant-loop-r
invariant-loop-r l = Standing l.image l.v l.f l.at l.r l.marks × (length l.marks ≡ length l.initial.marks) × (l.r.to ≤ l.r.at)

abbrev pub decreases-loop-r : goal.decreases-loop-r
decreases-loop-r l = length l.image - l.r.to
