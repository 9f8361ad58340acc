use Rattle.std.proofs.Common.{arith}
use Rattle.map_ranges.specs.Table.{row_ends}
use Rattle.map_free.specs.Look.{swept_more}
use Rattle.map_free.proofs.advance.Goals as goal

pub take_row-s-requires : goal.take_row-s-requires
take_row-s-requires c = (row_ends _ _ c.requires.0.fit c.loop-s-test.true, omega (arith, c.loop-s-test.true, c.requires.0.few))

pub loop-s-smaller : goal.loop-s-smaller
loop-s-smaller c = omega (arith, c.take_row-s.ensures.next, c.loop-s-test.true)

pub loop-s-preserved : goal.loop-s-preserved
loop-s-preserved c = swept_more c.loop-s.invariant c.loop-s-test.true c.if-rows-s.true c.take_row-s.ensures
