use Rattle.std.proofs.Common.{◌≡◌}
use Rattle.digest_blocks.specs.Blocks.{chained}
use Rattle.digest_message.specs.Message.{padded, H₀}
use Rattle.digest_message.proofs.finish.Given as goal

abbrev pub invariant-loop-i : goal.invariant-loop-i
invariant-loop-i l = l.x ≡ chained H₀ (padded l.s) l.i
