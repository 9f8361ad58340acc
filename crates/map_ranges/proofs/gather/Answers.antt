use Rattle.std.proofs.Common.{sym, ◌∙◌, arith}
use Rattle.std.proofs.lemmas.Result.{err_from_is_err_and}
use Rattle.map_ranges.specs.Gathering.{gathering_start, gathering_refused, gathering_end, gathering_moves, gathering_next, stands_here, type_here}
use Rattle.map_ranges.proofs.gather.Goals as goal

pub loop-s-init : goal.loop-s-init
loop-s-init c = gathering_start _ _

pub returns-in_err-s : goal.returns-in_err-s
returns-in_err-s c =
    let p = err_from_is_err_and c.from_residual.result c.from_residual.ensures.1 in
    rw (p.1, p.2) (gathering_refused c.loop-s.invariant (sym c.in_err-s.was ∙ c.pass_one.ensures))

pub returns-then-s-eq65535 : goal.returns-then-s-eq65535
returns-then-s-eq65535 c = gathering_end c.loop-s.invariant (sym c.in_ok-s.was ∙ c.pass_one.ensures) c.if-s-eq65535.true _ c.finish.ensures

pub take-taken-requires : goal.take-taken-requires
take-taken-requires c =
    let walk = c.loop-s.invariant in
    let step = sym c.in_ok-s.was ∙ c.pass_one.ensures in
    (stands_here walk step, type_here walk step, omega (arith, walk.least, walk.most))

pub loop-s-smaller : goal.loop-s-smaller
loop-s-smaller c =
    omega (arith, gathering_moves c.loop-s.invariant (sym c.in_ok-s.was ∙ c.pass_one.ensures) c.if-s-eq65535.false)

pub loop-s-preserved : goal.loop-s-preserved
loop-s-preserved c =
    gathering_next c.loop-s.invariant (sym c.in_ok-s.was ∙ c.pass_one.ensures) c.if-s-eq65535.false _ _ c.take-taken.ensures
