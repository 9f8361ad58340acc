use Rattle.sheet_bodies.specs.Set.{written}
use lib.ListN.{length}
use Prim.Native.Nat.{◌≤◌}
use mathlib.Core.Path.{◌≡◌}
use Rattle.sheet_bodies.proofs.write_sheet.Given as goal

abbrev pub invariant-loop-i : goal.invariant-loop-i
invariant-loop-i l = (l.part ≡ written l.initial.part l.sheet l.i) × (length l.part ≡ length l.initial.part)
