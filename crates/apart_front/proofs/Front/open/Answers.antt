use native.Mathlib.Omega.{arith}
use Rattle.apart_front.specs.FrontsLaws.{opens, leaves}
use Rattle.apart_front.proofs.Front.open.Goals as goal

pub returns-then-self : goal.returns-then-self
returns-then-self c = opens c.args.self c.args.x (omega arith) (omega arith)

pub returns : goal.returns
returns c = leaves c.args.self c.args.x (omega arith)
