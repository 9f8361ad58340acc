use Prim.Native.Nat.{◌-◌}
use Rattle.hex_import.specs.ImportLaws.{Halves}
use Rattle.hex_import.proofs.length_of.Given as goal

-- Assumes nothing.
abbrev pub invariant-loop-high : goal.invariant-loop-high
invariant-loop-high l = Halves l.size l.base l.low l.high

abbrev pub decreases-loop-high : goal.decreases-loop-high
decreases-loop-high l = l.high - l.low
