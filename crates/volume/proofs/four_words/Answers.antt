use Rattle.volume.specs.SumLaws.{four}
use Rattle.words.specs.Le.{Bytes}
use native.Mathlib.Omega.{arith}
use Rattle.volume.proofs.four_words.Goals as goal

-- the image's bytes are bytes
bytes : (c : goal.After-le64-w) → Bytes c.args.image.now
unfolding Bytes
bytes c = λ i. omega (arith, c.type_inv.image i)

pub returns : goal.returns
returns c =
    four c.args.image.now c.args.i c.le64-w.result (bytes c) c.le64-w.ensures.is
