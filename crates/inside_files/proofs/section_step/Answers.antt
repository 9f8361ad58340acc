use Rattle.std.specs.Prelude.{not}
use Rattle.std.proofs.Common.{ap}
use Rattle.inside_files.specs.PartsLaws.{ahead_section, ahead_cut}
use Rattle.facts.specs.FactLaws.{granted, refuted}
use mathlib.Core.Path.{refl}
use native.Mathlib.Omega.{arith}
use Rattle.inside_files.proofs.section_step.Goals as goal

pub returns-then-not-section_held : goal.returns-then-not-section_held
returns-then-not-section_held c =
    let a = c.args in
    rw c.last.ensures
    (record {
      ends = λ z. absurd (omega arith);
      goes = λ h.
          ahead_cut a.image.now a.v a.c _ c.requires.3
          (refuted c.section_held.ensures (ap not c.if-not-section_held.true)) refl (omega arith);
      less = λ h. omega (arith, c.requires);
      valid = record { within = omega arith; at_small = omega arith; file_small = c.requires.2.file_small };
      inside = λ z. absurd (omega arith);
      small = omega (arith, c.requires);
    })

pub le24-size-requires : goal.le24-size-requires
le24-size-requires c = omega (arith, (granted c.section_held.ensures (ap not c.if-not-section_held.false)))

pub byte-requires : goal.byte-requires
byte-requires c = omega (arith, (granted c.section_held.ensures (ap not c.if-not-section_held.false)))

pub returns : goal.returns
returns c =
    let a = c.args in
    let ok = (granted c.section_held.ensures (ap not c.if-not-section_held.false)) in
    let k = c.le24-size.ensures.is in
    record {
      ends = λ z. absurd (omega arith);
      goes = λ h. rw (← k, ← c.byte.ensures.is) at (ahead_section a.image.now a.v a.c c.requires.3 ok);
      less = λ h. omega (arith, c.requires, ok, k);
      valid = record {
        within = c.requires.2.within;
        at_small = omega (arith, c.requires, ok, k);
        file_small = c.requires.2.file_small;
      };
      inside = λ z. (omega (arith, ok, k), omega (arith, c.requires, ok, k));
      small = omega (arith, c.requires, ok, k);
    }
