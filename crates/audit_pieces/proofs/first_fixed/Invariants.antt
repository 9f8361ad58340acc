use Prim.Native.Nat.{ℕ, ◌+◌, ◌≤◌, ◌<◌}
use mathlib.Core.Logic.{◌⊎◌}
use lib.ListN.{length}
use Rattle.move_image.specs.Fixed.{fixed_at}
use Rattle.audit_pieces.proofs.first_fixed.Given as goal

abbrev pub invariant-loop-i : goal.invariant-loop-i
invariant-loop-i l = (l.k ≤ length l.image) × ((j : ℕ) → j < l.i → (fixed_at l.image l.r j + 4 ≤ l.at) ⊎ (l.k ≤ fixed_at l.image l.r j))
