use Rattle.std.specs.Prelude.{not}
use Rattle.std.proofs.Common.{ap}
use Rattle.inside_modules.specs.Modules.{kind_fits, from_kind}
use Rattle.facts.specs.FactLaws.{passes, fails, granted, refuted}
use native.Mathlib.Omega.{arith}
use Rattle.inside_modules.proofs.from_kind.Goals as goal

pub returns-then-not-kind_fits : goal.returns-then-not-kind_fits
unfolding from_kind
returns-then-not-kind_fits c =
    let a = c.args in
    rw (fails (kind_fits a.image.now a.opt a.soh a.fixed) (refuted c.kind_fits.ensures (ap not c.if-not-kind_fits.true)))
    c.refused.ensures

pub le32-count-requires : goal.le32-count-requires
le32-count-requires c = omega (arith, (granted c.kind_fits.ensures (ap not c.if-not-kind_fits.false)).0)

pub counted_at-dir-requires : goal.counted_at-dir-requires
counted_at-dir-requires c = λ more.
    let ok = granted c.kind_fits.ensures (ap not c.if-not-kind_fits.false) in
    omega (arith, ok.1, c.le32-count.ensures.is)

pub counted_at-size-requires : goal.counted_at-size-requires
counted_at-size-requires c = λ more.
    let ok = granted c.kind_fits.ensures (ap not c.if-not-kind_fits.false) in
    omega (arith, ok.1, c.le32-count.ensures.is)

pub returns : goal.returns
unfolding from_kind
returns c =
    let a = c.args in
    let ok = granted c.kind_fits.ensures (ap not c.if-not-kind_fits.false) in
    rw (
      passes (kind_fits a.image.now a.opt a.soh a.fixed) ok,
      ← c.le32-count.ensures.is,
      ← c.counted_at-dir.ensures,
      ← c.counted_at-size.ensures,
    ) c.judge.ensures
