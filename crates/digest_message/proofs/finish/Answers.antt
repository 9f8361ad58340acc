use Rattle.std.proofs.Common.{◌≡◌, ◌∙◌, length, arith}
use Rattle.digest_message.specs.PaddedLaws.{blocks}
use Rattle.digest_message.specs.MessageLaws.{padded_turn, all_blocks}
use Rattle.digest_message.proofs.finish.Goals as goal

pub loop-i-preserved : goal.loop-i-preserved
loop-i-preserved c = padded_turn _ _ _ _ _ c.block-t.ensures.1 c.loop-i.invariant c.compress-x.ensures

pub returns : goal.returns
returns c =
    let e : c.loop-i.i ≡ blocks (length c.args.s.now) = omega arith in
    rw e at c.loop-i.invariant ∙ all_blocks _
