use native.Mathlib.Omega.{arith}
use lib.ListN.{length-set}
use Rattle.hex_line.specs.WriteLaws.{wrote_two}
use Rattle.hex_line.proofs.put_pair.Goals as goal

pub bounds-out-at-2 : goal.bounds-out-at-2
bounds-out-at-2 c = simp length-set (omega arith)

pub returns : goal.returns
returns c = wrote_two _ _ _ _ _ _ c.digit.ensures c.digit-2.ensures
