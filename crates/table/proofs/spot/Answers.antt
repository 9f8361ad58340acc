use Rattle.table.specs.EntryLaws.{spot_of}
use mathlib.Core.Path.{sym}
use native.Mathlib.Omega.{arith}
use Rattle.table.proofs.spot.Goals as goal

pub returns-then-back-eq0 : goal.returns-then-back-eq0
returns-then-back-eq0 c = let a = c.args in sym ((spot_of a.size a.entry).low c.requires c.if-back-eq0.true)

pub overflow_sub-result : goal.overflow_sub-result
overflow_sub-result c = omega arith

pub overflow_sub-result-2 : goal.overflow_sub-result-2
overflow_sub-result-2 c = let a = c.args in omega (arith, ((spot_of a.size a.entry).back c.requires c.if-back-eq0.false).0)

pub returns : goal.returns
returns c = let a = c.args in sym ((spot_of a.size a.entry).back c.requires c.if-back-eq0.false).1
