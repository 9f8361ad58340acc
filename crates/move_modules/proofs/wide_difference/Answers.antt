use Rattle.moves.specs.Moves.{difference}
use Rattle.std.proofs.Common.{arith}
use Rattle.move_modules.proofs.wide_difference.Goals as goal

pub returns : goal.returns
unfolding difference
returns c = omega arith
