use native.Mathlib.Omega.{arith}
use Rattle.text_output.specs.Taken.{reported}
use Rattle.text_output.proofs.report.Goals as goal

pub returns : goal.returns
returns c = reported (rw (← c.take_up.ensures, ← c.take_up-2.ensures) c.put_audit.ensures.wrote) c.put_audit.ensures.upper_bound (omega arith)
