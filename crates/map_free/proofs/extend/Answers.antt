use Rattle.std.proofs.Common.{arith}
use Rattle.map_free.specs.Look.{swept_on, extends_top}
use Rattle.map_free.proofs.extend.Goals as goal

pub returns-then-last : goal.returns-then-last
returns-then-last c =
    (extends_top c.loop-last.invariant.0 c.requires.0.fit c.if-last.true, swept_on c.loop-last.invariant.1 _ (omega arith))
