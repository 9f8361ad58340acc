use native.Mathlib.Omega.{arith}
use Rattle.apart_front.specs.FrontsLaws.{in_gap, above, nowhere, fronts_lost}
use Rattle.apart_front.proofs.Front.pass.Goals as goal

pub returns-then-end-self : goal.returns-then-end-self
returns-then-end-self c = in_gap c.args.self c.args.x (omega arith) (omega arith)

pub returns-then-self-x-2 : goal.returns-then-self-x-2
returns-then-self-x-2 c = above c.args.self c.args.x (omega arith)

pub returns-then-end-eq0 : goal.returns-then-end-eq0
returns-then-end-eq0 c = nowhere c.args.self c.args.x (omega arith)

pub returns : goal.returns
returns c = fronts_lost c.args.self _ _ c.lost.ensures
