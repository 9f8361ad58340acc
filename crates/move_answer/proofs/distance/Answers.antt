use Rattle.std.specs.Prelude.{ℕ, ◌≤◌, ◌^◌}
use Rattle.std.proofs.Common.{◌≡◌, ◌∙◌, arith}
use Rattle.move_answer.proofs.SignLaws.{mag_difference}
use mir.Syntax.{w64}
use mir.Facts.{to_z_pos, to_z-of_z}
use mir.Val.{SFits, to_z}
use lib.IntN.{pos, ◌-ℤ◌}
use Rattle.move_answer.proofs.distance.Goals as goal

same : (new old : ℕ) → new ≤ 2 ^ 32 → old ≤ 2 ^ 32 → to_z w64 new -ℤ to_z w64 old ≡ pos new -ℤ pos old
same new old n o = rw (to_z_pos w64 {n = new} (omega arith), to_z_pos w64 {n = old} (omega arith))

fits : (new old : ℕ) → new ≤ 2 ^ 32 → old ≤ 2 ^ 32 → SFits w64 (to_z w64 new -ℤ to_z w64 old)
fits new old n o = rw (same new old n o) (record { sfits = mag_difference new old (omega arith) (omega arith) })

pub overflow_sub-result : goal.overflow_sub-result
overflow_sub-result c = fits c.args.new c.args.old (omega arith) (omega arith)

pub returns : goal.returns
returns c =
    to_z-of_z (fits c.args.new c.args.old (omega arith) (omega arith)) ∙ same c.args.new c.args.old (omega arith) (omega arith)
