use Rattle.std.specs.Prelude.{not}
use Rattle.std.proofs.Common.{ap}
use Rattle.inside_blocks.specs.Blocks.{block_fits}
use Rattle.inside_blocks.specs.BlocksLaws.{ahead_broken, ahead_block}
use Rattle.facts.specs.FactLaws.{granted, refuted}
use mathlib.Core.Path.{refl}
use mathlib.Core.Logic.{inl, inr}
use native.Mathlib.Omega.{arith}
use Rattle.inside_blocks.proofs.block_step.Goals as goal

pub returns-then-not-block_fits : goal.returns-then-not-block_fits
returns-then-not-block_fits c =
    let a = c.args in
    let e = c.find-s.ensures.0 in (
      record {
        ends = λ z. absurd (omega arith);
        goes = λ h.
            rw e
            (ahead_broken a.image.now a.m a.c _ c.requires.3 c.requires.2 c.requires.1
            (rw e at (refuted c.block_fits.ensures (ap not c.if-not-block_fits.true))) refl refl (omega arith));
        less = λ h. omega (arith, c.requires);
        valid = record { few = omega arith; within = omega arith; used_small = omega arith; page_small = omega arith };
        held = inr (inl refl);
        small = omega arith;
      },
      refl,
      omega arith,
    )

pub le32-k-requires : goal.le32-k-requires
le32-k-requires c = omega (arith, (granted c.block_fits.ensures (ap not c.if-not-block_fits.false)))

pub overflow_sub-result : goal.overflow_sub-result
overflow_sub-result c = omega (arith, (granted c.block_fits.ensures (ap not c.if-not-block_fits.false)), c.le32-k.ensures.is)

pub le32-requires : goal.le32-requires
le32-requires c = omega (arith, (granted c.block_fits.ensures (ap not c.if-not-block_fits.false)))

pub returns : goal.returns
returns c =
    let a = c.args in
    let e = c.find-s.ensures.0 in
    let ok = (granted c.block_fits.ensures (ap not c.if-not-block_fits.false)) in
    let k = c.le32-k.ensures.is in (
      record {
        ends = λ z. absurd (omega arith);
        goes = λ h.
            rw (← e, ← k, ← c.le32.ensures.is) at
            (ahead_block a.image.now a.m a.c c.requires.3 c.requires.2 c.requires.1 (rw e at ok));
        less = λ h. omega (arith, c.requires, ok, k);
        valid = record {
          few = omega arith;
          within = omega (arith, c.requires, ok, k);
          used_small = omega (arith, c.requires, ok, k);
          page_small = omega (arith, c.le32.ensures.small);
        };
        held = inr (inr (refl, (omega arith, omega (arith, ok, k))));
        small = omega (arith, c.requires, ok, k);
      },
      refl,
      omega arith,
    )
