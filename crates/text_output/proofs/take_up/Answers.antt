use mathlib.Core.Path.{sym}
use native.Mathlib.Omega.{arith}
use Rattle.text_output.specs.Taken.{taken_whole, taken_none}
use Rattle.text_output.proofs.take_up.Goals as goal

-- Assumes nothing.
pub returns-then-file-gt28672 : goal.returns-then-file-gt28672
returns-then-file-gt28672 c = sym (taken_none c.args.file.now (omega arith))

pub returns : goal.returns
returns c = sym (taken_whole c.args.file.now (omega arith))
