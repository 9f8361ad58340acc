use Rattle.move_image.specs.Fixed.{fixed_of}
use Rattle.moves.specs.Moves.{moved_to}
use Rattle.std.proofs.Common.{◌≡◌, ◌+◌, ◌-◌, ◌≤◌, length}
use Rattle.move_image.proofs.move_fixed.Given as goal

abbrev pub invariant-loop-i : goal.invariant-loop-i
invariant-loop-i l = (l.i ≤ l.r.n + 1) × (l.image ≡ moved_to l.initial.image (fixed_of l.initial.image l.r) (λ w. l.d) l.i) × (length l.image ≡ length l.initial.image)
