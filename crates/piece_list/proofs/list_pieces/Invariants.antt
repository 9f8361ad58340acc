use Prim.Native.Nat.{◌-◌}
use mathlib.Core.Path.{◌≡◌}
use lib.ListN.{length}
use Rattle.audit_pieces.specs.Pieces.{by, Standing}
use Rattle.piece_list.specs.Filling.{Lists}
use Rattle.piece_list.proofs.list_pieces.Given as goal

abbrev pub invariant-loop-p : goal.invariant-loop-p
invariant-loop-p g l = (length l.window ≡ length l.initial.window) × Standing l.vendor l.r l.p × Lists g.U.Unit.writing (by l.vendor l.r l.d.four l.d.eight) l.shipped l.r 0 l.p.to l.initial.places 0 l.places l.i

abbrev pub decreases-loop-p : goal.decreases-loop-p
decreases-loop-p g l = length l.vendor - l.p.to
