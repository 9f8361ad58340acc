use Rattle.inside_judge.specs.Rules.{patch_items}
use Rattle.apart_windows.specs.Windows.{Windows}
use Prim.Native.Nat.{◌-◌}
use Rattle.apart_windows.proofs.words_apart.Given as goal

abbrev pub invariant-loop-w : goal.invariant-loop-w
invariant-loop-w l = Windows l.image l.v l.f (patch_items l.image l.t l.n) l.E l.w l.s

abbrev pub decreases-loop-w : goal.decreases-loop-w
decreases-loop-w l = l.top - l.w
