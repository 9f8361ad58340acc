use Rattle.std.specs.Prelude.{not}
use Rattle.std.proofs.Common.{ap}
use Rattle.inside_files.specs.PartsLaws.{sections_at_lem, ahead_free, ahead_broken, ahead_file}
use Rattle.facts.specs.FactLaws.{granted, refuted, holds, fails_not, is_test}
use mathlib.Core.Path.{sym, ◌∙◌}
use native.Mathlib.Omega.{arith}
use Rattle.inside_files.proofs.file_step.Goals as goal

pub returns-then-is_free : goal.returns-then-is_free
returns-then-is_free c =
    let a = c.args in
    rw c.last.ensures
    (record {
      ends = λ z. absurd (omega arith);
      goes = λ h.
          ahead_free a.image.now a.v a.c _ c.requires.3 c.requires.4
          (holds _ (sym (is_test c.is_free.ensures) ∙ c.if-is_free.true)) (omega arith)
          (omega arith);
      less = λ h. omega (arith, c.requires);
      valid = record { within = omega arith; at_small = omega arith; file_small = omega (arith, c.requires) };
      inside = λ z. absurd (omega arith);
      small = omega (arith, c.requires);
    })

pub returns-then-not-file_held : goal.returns-then-not-file_held
returns-then-not-file_held c =
    let a = c.args in
    rw c.last-then-not-file_held.ensures
    (record {
      ends = λ z. absurd (omega arith);
      goes = λ h.
          ahead_broken a.image.now a.v a.c _ c.requires.3 c.requires.4 (fails_not _ (sym (is_test c.is_free.ensures) ∙ c.if-is_free.false))
          (refuted c.file_held.ensures (ap not c.if-not-file_held.true)) (omega arith) (omega arith);
      less = λ h. omega (arith, c.requires);
      valid = record { within = omega arith; at_small = omega arith; file_small = omega (arith, c.requires) };
      inside = λ z. absurd (omega arith);
      small = omega (arith, c.requires);
    })

pub le24-requires : goal.le24-requires
le24-requires c = omega (arith, (granted c.file_held.ensures (ap not c.if-not-file_held.false)))

pub sections_at-at-requires : goal.sections_at-at-requires
sections_at-at-requires c = omega (arith, (granted c.file_held.ensures (ap not c.if-not-file_held.false)))

pub returns : goal.returns
returns c =
    let a = c.args in
    let ok = (granted c.file_held.ensures (ap not c.if-not-file_held.false)) in
    let k = c.le24.ensures.is in
    let low = sections_at_lem a.image.now a.c.file ok.1.1.1.0 in
    record {
      ends = λ z. absurd (omega arith);
      goes = λ h.
          rw (← k, ← c.sections_at-at.ensures) at
          (ahead_file a.image.now a.v a.c c.requires.3 c.requires.4 (fails_not _ (sym (is_test c.is_free.ensures) ∙ c.if-is_free.false)) ok);
      less = λ h. omega (arith, c.requires, ok, k, low, c.sections_at-at.ensures);
      valid = record {
        within = omega (arith, c.requires, ok, k);
        at_small = omega (arith, c.requires, ok, k, low, c.sections_at-at.ensures);
        file_small = omega (arith, c.requires, ok, k);
      };
      inside = λ z. absurd (omega arith);
      small = omega (arith, c.requires, ok);
    }
