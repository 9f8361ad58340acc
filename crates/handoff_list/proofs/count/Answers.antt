use Rattle.std.proofs.Common.{sym, ◌∙◌, arith}
use Rattle.handoff_list.specs.Counting.{counting_start, counting_refused, counting_end, counting_moves, counting_next}
use Rattle.handoff_list.proofs.count.Goals as goal

pub loop-s-init : goal.loop-s-init
loop-s-init c = counting_start _

pub returns-in-Err : goal.returns-in-Err
returns-in-Err c = counting_refused _ _ _ c.loop-s.invariant (sym c.in-Err.is ∙ c.pass_one.ensures)

pub overflow_add-count : goal.overflow_add-count
overflow_add-count c = omega (arith, c.loop-s.invariant.most, c.loop-s.invariant.few)

pub returns-then-s-eq65535 : goal.returns-then-s-eq65535
returns-then-s-eq65535 c = counting_end _ _ _ c.loop-s.invariant (sym c.in-Ok.is ∙ c.pass_one.ensures) c.if-s-eq65535.true

pub loop-s-smaller : goal.loop-s-smaller
loop-s-smaller c =
    let walk = c.loop-s.invariant in
    let step = sym c.in-Ok.is ∙ c.pass_one.ensures in
    omega (arith, counting_moves _ _ _ walk step c.if-s-eq65535.false, (counting_next _ _ _ walk step c.if-s-eq65535.false).most)

pub loop-s-preserved : goal.loop-s-preserved
loop-s-preserved c = counting_next _ _ _ c.loop-s.invariant (sym c.in-Ok.is ∙ c.pass_one.ensures) c.if-s-eq65535.false
