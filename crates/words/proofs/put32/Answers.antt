use Rattle.words.specs.Put.{digit, put}
use Rattle.std.proofs.Common.{add-zero, div-one}
use Rattle.words.proofs.put32.Goals as goal

pub returns : goal.returns
unfolding digit put
returns c = simp (add-zero, div-one)
