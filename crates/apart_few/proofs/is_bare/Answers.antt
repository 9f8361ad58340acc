use native.Mathlib.Omega.{arith}
use Rattle.std.proofs.Common.{eqb-true}
use Rattle.apart_few.specs.FewLaws.{bare_start}
use Rattle.apart_few.proofs.is_bare.Goals as goal

pub returns-then-c-eq0 : goal.returns-then-c-eq0
returns-then-c-eq0 c =
    λ e. (bare_start c.args.m c.start-c.result c.start-c.ensures (omega arith), eqb-true _ _ e)
