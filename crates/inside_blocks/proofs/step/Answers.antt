use Rattle.inside_blocks.specs.BlocksLaws.{ahead_end}
use mathlib.Core.Path.{refl}
use mathlib.Core.Logic.{inl}
use native.Mathlib.Omega.{arith}
use Rattle.inside_blocks.proofs.step.Goals as goal

pub returns : goal.returns
returns c =
    let a = c.args in
    record {
      ends = λ e. ahead_end a.image.now a.m a.c (omega arith) (omega arith) (omega arith);
      goes = λ h. absurd (h refl);
      less = λ h. absurd (h refl);
      valid = c.requires.1;
      held = inl (omega arith, omega arith);
      small = omega arith;
    }
