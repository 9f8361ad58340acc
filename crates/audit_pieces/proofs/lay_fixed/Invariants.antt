use lib.ListN.{length}
use Rattle.audit_lay.specs.Lay.{value}
use Rattle.audit_pieces.specs.Pieces.{FixedLaid}
use Rattle.audit_pieces.proofs.lay_fixed.Given as goal

abbrev pub invariant-loop-i : goal.invariant-loop-i
invariant-loop-i l = FixedLaid l.image l.r (value l.image l.d.four l.d.eight) l.from (length l.initial.window) l.i l.initial.window l.window
