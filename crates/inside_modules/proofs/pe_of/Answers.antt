use Rattle.inside_modules.specs.Modules.{dos_fits, pe_of}
use Rattle.facts.specs.FactLaws.{passes, fails}
use mathlib.Core.Path.{sym, ◌∙◌}
use native.Mathlib.Omega.{arith}
use Rattle.inside_modules.proofs.pe_of.Goals as goal

pub returns-then-hi-lo : goal.returns-then-hi-lo
unfolding pe_of
returns-then-hi-lo c =
    let a = c.args in
    rw (fails (dos_fits a.image.now a.lo a.hi) (λ h. omega (arith, h.0))) c.refused.ensures

pub returns-then-le16-ne23117 : goal.returns-then-le16-ne23117
unfolding pe_of
returns-then-le16-ne23117 c =
    let a = c.args in
    rw (fails (dos_fits a.image.now a.lo a.hi) (λ h. c.if-le16-ne23117.true (c.le16.ensures.is ∙ h.1)))
    c.refused-then-le16-ne23117.ensures

pub returns : goal.returns
unfolding pe_of
returns c =
    let a = c.args in
    rw (
      passes (dos_fits a.image.now a.lo a.hi) (omega arith, sym c.le16.ensures.is ∙ c.if-le16-ne23117.false),
      ← c.le32-e.ensures.is,
    ) c.from_pe.ensures
