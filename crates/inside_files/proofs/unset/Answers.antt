use Prim.Native.Nat.{◌+◌}
use mathlib.Core.Path.{sym, ◌∙◌}
use native.Mathlib.Omega.{arith}
use Rattle.words.specs.Le.{Bytes}
use Rattle.inside_files.specs.FreeLaws.{free_eight}
use Rattle.inside_files.proofs.BitLaws.{xor_none}
use Rattle.inside_files.proofs.unset.Goals as goal

pub returns : goal.returns
unfolding Bytes
returns c =
    λ e i h.
    let a = c.args in
    free_eight a.image.now a.k (λ j. omega (arith, c.type_inv.image j)) c.requires
    (sym c.le64.ensures.is ∙ xor_none c.le64.result 18446744073709551615 e) (a.k + i) (omega arith) (omega arith)
