use native.Mathlib.Omega.{arith}
use Rattle.audit_count.proofs.BitLaws.{ones_xor}
use Rattle.audit_count.specs.FlipLaws.{flips_most}
use Rattle.audit_count.proofs.byte_flips.Goals as goal

pub returns : goal.returns
returns c =
    let x = c.args.x in
    let y = c.args.y in
    let e = ones_xor 8 x y (omega arith) (omega arith) in
    record { value = e; upper_bound = rw e (flips_most 8 x y) }
