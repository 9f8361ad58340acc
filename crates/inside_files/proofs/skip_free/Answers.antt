use Prim.Native.Nat.{◌+◌, ◌-◌, ◌*◌}
use mathlib.Core.Path.{sym, ◌∙◌}
use native.Mathlib.Omega.{arith}
use native.Mathlib.Decide.{dec_lt}
use Rattle.words.specs.Le.{Bytes}
use Rattle.inside_files.specs.FreeLaws.{free_eight}
use Rattle.inside_files.proofs.skip_free.Goals as goal

bytes : (c : goal.Else-le64) → Bytes c.args.image.now
unfolding Bytes
bytes c = λ i. omega (arith, c.type_inv.image i)

pub loop-i-init : goal.loop-i-init
loop-i-init c = λ k h. c.skip_blocks-from.ensures.1 k (omega arith)

pub loop-i-preserved : goal.loop-i-preserved
loop-i-preserved c =
    let a = c.args in
    let i = c.skip_blocks-from.result + 8 * c.loop-i.i in
    let e = sym c.le64.ensures.is ∙ c.if-le64.false in
    λ k h.
    elim (dec_lt k i) [
      | yes l ↦ c.loop-i.invariant k l
      | no l ↦ free_eight a.image.now (a.f + i) (bytes c) (omega (arith, c.requires.0)) e (a.f + k) (omega arith) (omega arith)
    ]
