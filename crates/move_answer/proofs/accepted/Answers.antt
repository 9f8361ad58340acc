use Rattle.answers.specs.declared.Moved.{Moved}
use Rattle.move_answer.proofs.SignLaws.{mag_difference}
use mir.Facts.{to_z-of_z}
use mir.Val.{SFits, to_z, of_z}
use mir.Syntax.{w64}
use lib.IntN.{ℤ, pos, ◌-ℤ◌}
use mathlib.Core.Path.{◌≡◌, ap, ◌∙◌}
use native.Mathlib.Omega.{arith}
use Rattle.move_answer.proofs.accepted.Goals as goal

-- the answer with this move
going : ℤ → Moved
going z = record { number = 0; index = 0; distance = z }

pub returns : goal.returns
unfolding going
returns c =
    let a = c.args in
    let fits : SFits w64 c.distance.result = rw c.distance.ensures (record { sfits = mag_difference a.base a.r.base (omega (arith, c.requires)) (omega (arith, c.requires)) }) in
    let z : to_z w64 (of_z w64 c.distance.result) ≡ pos a.base -ℤ pos a.r.base = to_z-of_z fits ∙ c.distance.ensures in
    ap going z
