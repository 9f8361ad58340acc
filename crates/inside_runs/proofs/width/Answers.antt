use Rattle.inside_runs.specs.RunsLaws.{width_four, width_eight, width_none}
use mathlib.Core.Path.{sym}
use native.Mathlib.Omega.{arith}
use Rattle.inside_runs.proofs.width.Goals as goal

pub returns-then-t-eq3 : goal.returns-then-t-eq3
returns-then-t-eq3 c = (sym (width_four c.args.e c.if-t-eq3.true), omega arith)

pub returns-then-t-eq10 : goal.returns-then-t-eq10
returns-then-t-eq10 c = (sym (width_eight c.args.e c.if-t-eq10.true), omega arith)

pub returns : goal.returns
returns c = (sym (width_none c.args.e c.if-t-eq3.false c.if-t-eq10.false), omega arith)
