use Rattle.std.specs.Prelude.{not}
use Rattle.std.proofs.Common.{ap}
use Rattle.inside_modules.specs.Modules.{te_fits, te_of}
use Rattle.facts.specs.FactLaws.{passes, fails, granted, refuted}
use native.Mathlib.Omega.{arith}
use Rattle.inside_modules.proofs.te_of.Goals as goal

pub returns-then-not-te_fits : goal.returns-then-not-te_fits
unfolding te_of
returns-then-not-te_fits c =
    let a = c.args in
    rw (fails (te_fits a.image.now a.lo a.hi) (refuted c.te_fits.ensures (ap not c.if-not-te_fits.true))) c.refused.ensures

pub byte-rows-requires : goal.byte-rows-requires
byte-rows-requires c = omega (arith, (granted c.te_fits.ensures (ap not c.if-not-te_fits.false)))

pub le16-stripped-requires : goal.le16-stripped-requires
le16-stripped-requires c = omega (arith, (granted c.te_fits.ensures (ap not c.if-not-te_fits.false)))

pub le32-dir-requires : goal.le32-dir-requires
le32-dir-requires c = omega (arith, (granted c.te_fits.ensures (ap not c.if-not-te_fits.false)))

pub le32-size-requires : goal.le32-size-requires
le32-size-requires c = omega (arith, (granted c.te_fits.ensures (ap not c.if-not-te_fits.false)))

pub judge-requires : goal.judge-requires
judge-requires c =
    omega (arith, (granted c.te_fits.ensures (ap not c.if-not-te_fits.false)), c.byte-rows.ensures.is)

pub returns : goal.returns
unfolding te_of
returns c =
    let a = c.args in
    rw (
      passes (te_fits a.image.now a.lo a.hi) (granted c.te_fits.ensures (ap not c.if-not-te_fits.false)),
      ← c.byte-rows.ensures.is,
      ← c.le16-stripped.ensures.is,
      ← c.le32-dir.ensures.is,
      ← c.le32-size.ensures.is,
    ) c.judge.ensures
