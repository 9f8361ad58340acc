use Prim.Native.Nat.{◌-◌}
use Rattle.hex_parts.specs.Told.{Told}
use Rattle.hex_parts.proofs.parts_stand.Given as goal

-- Assumes nothing.
abbrev pub invariant-loop-i : goal.invariant-loop-i
invariant-loop-i l = Told l.text l.base l.n l.at l.i

abbrev pub decreases-loop-i : goal.decreases-loop-i
decreases-loop-i l = l.n - l.i
