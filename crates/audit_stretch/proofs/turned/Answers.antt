use Rattle.audit_stretch.specs.StretchLaws.{same_le}
use Rattle.words.specs.Le.{Bytes}
use Rattle.audit_stretch.proofs.BitLaws.{xor_none}
use mathlib.Core.Path.{sym, ◌∙◌}
use native.Mathlib.Omega.{arith}
use Rattle.audit_stretch.proofs.turned.Goals as goal

pub returns : goal.returns
unfolding Bytes
returns c =
    λ e.
    let a = c.args in
    same_le 8 a.a.now a.b.now a.k (λ i. omega (arith, c.type_inv.a i))
    (λ i. omega (arith, c.type_inv.b i))
    (sym c.le64.ensures.is ∙ xor_none c.le64.result c.le64-2.result e ∙ c.le64-2.ensures.is)
