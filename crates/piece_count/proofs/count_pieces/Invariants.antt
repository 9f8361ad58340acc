use Prim.Native.Nat.{◌-◌}
use mathlib.Core.Path.{◌≡◌}
use lib.ListN.{length}
use Rattle.audit_pieces.specs.Pieces.{by, Standing}
use Rattle.piece_count.specs.Counting.{Few, Adds}
use Rattle.piece_count.proofs.count_pieces.Given as goal

abbrev pub invariant-loop-p : goal.invariant-loop-p
invariant-loop-p l = (length l.window ≡ length l.initial.window) × Standing l.vendor l.r l.p × Few l.initial.t 0 × Adds (by l.vendor l.r l.d.four l.d.eight) l.shipped l.r 0 l.p.to l.initial.t l.t

abbrev pub decreases-loop-p : goal.decreases-loop-p
decreases-loop-p l = length l.vendor - l.p.to
