use Rattle.words.specs.Le.{le}
use Rattle.std.proofs.Common.{add-zero, arith}
use Rattle.words.proofs.byte.Goals as goal

pub returns : goal.returns
unfolding le
returns c = record { is = rw add-zero (omega arith); small = omega (arith, c.type_inv.s c.args.at) }
