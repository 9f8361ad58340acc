use Rattle.header.proofs.ZeroLaws.{zeros_counted, counted_zeros}
use native.Mathlib.Omega.{arith}
use Rattle.header.proofs.legal.Goals as goal

pub returns-then-base-lt12 : goal.returns-then-base-lt12
returns-then-base-lt12 c = record { says = λ h. omega (arith, zeros_counted 12 64 c.args.base (omega arith) h.0) }

pub returns : goal.returns
returns c = record { says = (counted_zeros 12 64 c.args.base (omega arith), omega arith) }
