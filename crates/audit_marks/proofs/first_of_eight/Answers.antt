use Rattle.audit_marks.proofs.LowLaws.{first_byte}
use Rattle.words.specs.Le.{Bytes}
use lib.Count.{count_trailing_zeros, trailing_le}
use Prim.Native.Nat.{◌/◌}
use native.Mathlib.Omega.{arith}
use Rattle.audit_marks.proofs.first_of_eight.Goals as goal

pub overflow_cast-result : goal.overflow_cast-result
overflow_cast-result c = omega (arith, trailing_le 64 c.le64-x.result)

pub overflow_add-result : goal.overflow_add-result
overflow_add-result c = omega (arith, trailing_le 64 c.le64-x.result)

pub returns : goal.returns
unfolding Bytes
returns c =
    let a = c.args in
    let x = c.le64-x.result in
    first_byte 8 a.marks.now a.k (λ i. omega (arith, c.type_inv.marks i)) (count_trailing_zeros 64 x / 8)
    (rw c.le64-x.ensures.is)
