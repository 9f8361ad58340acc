use Rattle.std.specs.Prelude.{not, ◌≡◌, ◌+◌, ◌*◌}
use Rattle.std.proofs.Common.{ap}
use native.Mathlib.Omega.{arith}
use borrow.Author.Tests.{not-false}
use Rattle.inside_files.specs.FreeLaws.{full_join}
use Rattle.inside_files.proofs.skip_blocks.Goals as goal

pub loop-i-init : goal.loop-i-init
loop-i-init c = λ k h. absurd (omega arith)

pub loop-i-preserved : goal.loop-i-preserved
loop-i-preserved c =
    let a = c.args in
    let i = c.loop-i.i in
    let e : 32 * i + 32 ≡ 32 * (i + 1) = omega arith in
    rw e at (full_join a.image.now a.f (32 * i) 32 c.loop-i.invariant (c.is_full.ensures (not-false _ (ap not c.if-not-is_full.false))))
