use mathlib.Core.Path.{refl}
use native.Mathlib.Omega.{arith}
use Rattle.words.specs.Le.{Bytes}
use Rattle.audit_pieces.specs.PiecesLaws.{standing_start}
use Rattle.audit_pieces.proofs.start.Goals as goal

pub returns : goal.returns
unfolding Bytes
returns c =
    let a = c.args in
    (refl, refl, standing_start a.image.now a.r c.requires (λ i. omega (arith, c.type_inv.image i)) c.first.result c.first.ensures)
