use Rattle.inside_modules.specs.Modules.{pe_fits, from_pe}
use Rattle.facts.specs.FactLaws.{passes, fails}
use mathlib.Core.Path.{sym, ◌∙◌}
use native.Mathlib.Omega.{arith}
use Rattle.inside_modules.proofs.from_pe.Goals as goal

pub returns-then-hi-pe : goal.returns-then-hi-pe
unfolding from_pe
returns-then-hi-pe c =
    let a = c.args in
    rw (fails (pe_fits a.image.now a.hi a.pe) (λ h. omega (arith, h.0))) c.refused.ensures

pub returns-then-le32-ne17744 : goal.returns-then-le32-ne17744
unfolding from_pe
returns-then-le32-ne17744 c =
    let a = c.args in
    rw (fails (pe_fits a.image.now a.hi a.pe) (λ h. c.if-le32-ne17744.true (c.le32.ensures.is ∙ h.1)))
    c.refused-then-le32-ne17744.ensures

pub returns : goal.returns
unfolding from_pe
returns c =
    let a = c.args in
    rw (
      passes (pe_fits a.image.now a.hi a.pe) (omega arith, sym c.le32.ensures.is ∙ c.if-le32-ne17744.false),
      ← c.le16-soh.ensures.is,
      ← c.le16-rows.ensures.is,
    )
    c.from_optional.ensures
