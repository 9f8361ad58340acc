use Rattle.digest_message.specs.PaddedLaws.{Holding}
use Rattle.digest_message.proofs.block.Given as goal

abbrev pub invariant-loop-i : goal.invariant-loop-i
invariant-loop-i l = Holding l.s l.at l.byte-items l.i
