use Rattle.inside_files.specs.PartsLaws.{ahead_end}
use mathlib.Core.Path.{refl}
use native.Mathlib.Omega.{arith}
use Rattle.inside_files.proofs.step.Goals as goal

pub returns : goal.returns
returns c =
    let a = c.args in
    record {
      ends = λ e. ahead_end a.image.now a.v a.c (omega arith) (omega arith);
      goes = λ h. absurd (h refl);
      less = λ h. absurd (h refl);
      valid = c.requires.2;
      inside = λ z. absurd (omega arith);
      small = omega arith;
    }
