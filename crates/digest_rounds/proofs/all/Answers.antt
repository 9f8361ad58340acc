use Rattle.std.proofs.Common.{sym, arith}
use Rattle.digest_rounds.specs.RoundsLaws.{rounds_none, rounds_turn}
use Rattle.digest_rounds.proofs.all.Goals as goal

pub loop-t-init : goal.loop-t-init
loop-t-init c = (omega arith, omega arith, sym (rounds_none _ _ _))

pub loop-t-preserved : goal.loop-t-preserved
loop-t-preserved c =
    let l = c.loop-t in
    (omega arith, omega arith, rounds_turn _ _ _ _ _ _ l.invariant.2 c.four-v.ensures)
