use Rattle.audit_lay.specs.Lay.{value}
use Rattle.inside_walk.specs.WholeWalk.{ahead, far, Valid}
use Rattle.audit_window.specs.Window.{Passed, Drawing}
use Prim.Native.Nat.{◌+◌}
use Rattle.std.specs.Prelude.{unwrap_or}
use mathlib.Core.Path.{◌≡◌}
use lib.ListN.{length}
use Rattle.audit_window.proofs.fill.Given as goal

abbrev pub invariant-loop-d : goal.invariant-loop-d
invariant-loop-d l = Valid l.image l.v l.spot × Drawing (value l.image l.d.four l.d.eight) (ahead l.image l.v l.initial.spot) (ahead l.image l.v l.spot) l.from (length l.initial.window) l.initial.window l.window × (length l.window ≡ length l.initial.window)
    × Passed l.image l.v l.initial.spot (l.from + length l.initial.window) (unwrap_or l.kept l.spot)

abbrev pub decreases-loop-d : goal.decreases-loop-d
decreases-loop-d l = far l.v l.spot
