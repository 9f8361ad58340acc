use Rattle.inside_modules.specs.Modules.{room_fits, from_optional}
use Rattle.facts.specs.Fact.{◌≡?◌}
use Rattle.facts.specs.FactLaws.{passes, fails}
use Rattle.words.specs.Le.{le}
use mathlib.Core.Path.{◌≡◌, sym, ◌∙◌}
use native.Mathlib.Omega.{arith}
use Rattle.inside_modules.proofs.from_optional.Goals as goal

pub returns-then-soh-lt2 : goal.returns-then-soh-lt2
unfolding from_optional
returns-then-soh-lt2 c =
    let a = c.args in
    rw (fails (room_fits a.hi a.opt a.soh a.rows) (λ h. omega (arith, h.0))) c.refused.ensures

pub returns-then-hi-opt : goal.returns-then-hi-opt
unfolding from_optional
returns-then-hi-opt c =
    let a = c.args in
    rw (fails (room_fits a.hi a.opt a.soh a.rows) (λ h. omega (arith, h.1))) c.refused-then-hi-opt.ensures

pub returns-then-magic-eq267 : goal.returns-then-magic-eq267
unfolding from_optional
returns-then-magic-eq267 c =
    let a = c.args in
    rw (
      passes (room_fits a.hi a.opt a.soh a.rows) (omega arith, omega arith),
      passes (le 2 a.image.now a.opt ≡? 0x10B) (sym c.le16-magic.ensures.is ∙ c.if-magic-eq267.true),
    )
    c.from_kind.ensures

pub returns-then-magic-eq523 : goal.returns-then-magic-eq523
unfolding from_optional
returns-then-magic-eq523 c =
    let a = c.args in
    let is = c.le16-magic.ensures.is in
    rw (
      passes (room_fits a.hi a.opt a.soh a.rows) (omega arith, omega arith),
      fails (le 2 a.image.now a.opt ≡? 0x10B) (λ h. c.if-magic-eq267.false (is ∙ h)),
      passes (le 2 a.image.now a.opt ≡? 0x20B) (sym is ∙ c.if-magic-eq523.true),
    )
    c.from_kind-then-magic-eq523.ensures

pub returns : goal.returns
unfolding from_optional
returns c =
    let a = c.args in
    let is = c.le16-magic.ensures.is in
    rw (
      passes (room_fits a.hi a.opt a.soh a.rows) (omega arith, omega arith),
      fails (le 2 a.image.now a.opt ≡? 0x10B) (λ h. c.if-magic-eq267.false (is ∙ h)),
      fails (le 2 a.image.now a.opt ≡? 0x20B) (λ h. c.if-magic-eq523.false (is ∙ h)),
    )
    c.refused-2.ensures
