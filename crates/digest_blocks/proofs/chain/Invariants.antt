use Rattle.std.proofs.Common.{◌≡◌}
use Rattle.digest_blocks.specs.Blocks.{chained}
use Rattle.digest_blocks.proofs.chain.Given as goal

abbrev pub invariant-loop-i : goal.invariant-loop-i
invariant-loop-i l = l.x ≡ chained l.initial.x l.s l.i
