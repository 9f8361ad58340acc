use Rattle.inside_judge.specs.Rules.{patch_items}
use Rattle.inside_walk.specs.WholeWalk.{far}
use Rattle.apart_windows.specs.Windows.{Going}
use Rattle.apart_windows.proofs.scan_window.Given as goal

abbrev pub invariant-loop-marks : goal.invariant-loop-marks
invariant-loop-marks l = Going l.image l.v l.f (patch_items l.image l.t l.n) l.w l.marks l.s l.r

abbrev pub decreases-loop-marks : goal.decreases-loop-marks
decreases-loop-marks l = far l.v l.s
