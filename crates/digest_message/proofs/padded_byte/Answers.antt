use Rattle.std.proofs.Common.{sym, arith}
use Rattle.digest_message.specs.PaddedLaws.{apart, padded_in, padded_one, padded_zero, padded_length}
use Rattle.digest_message.proofs.padded_byte.Goals as goal

pub returns-then-p-n : goal.returns-then-p-n
returns-then-p-n c = sym (padded_in _ _ (omega arith))

pub returns-then-p-n-2 : goal.returns-then-p-n-2
returns-then-p-n-2 c = sym (padded_one _ _ (omega arith))

pub returns-then-p-e : goal.returns-then-p-e
returns-then-p-e c = sym (padded_zero _ _ (apart (omega arith) c.if-p-n-2.false) (omega arith))

pub returns : goal.returns
returns c = sym (padded_length _ _ (omega arith) (omega arith))
