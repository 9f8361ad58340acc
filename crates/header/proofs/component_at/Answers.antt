use Rattle.header.specs.Header.{component}
use native.Mathlib.Omega.{arith}
use Rattle.header.proofs.component_at.Goals as goal

pub returns : goal.returns
unfolding component
returns c = omega arith
