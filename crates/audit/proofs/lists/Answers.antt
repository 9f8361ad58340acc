use native.Mathlib.Omega.{arith}
use Rattle.audit.proofs.lists.Goals as goal

pub returns : goal.returns
returns c = record { says = λ h. h.1 (omega arith, omega arith) }
