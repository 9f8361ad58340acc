use Rattle.inside_blocks.specs.BlocksLaws.{ahead_entry}
use mathlib.Core.Logic.{inl}
use native.Mathlib.Omega.{arith}
use Rattle.inside_blocks.proofs.entry_step.Goals as goal

pub returns : goal.returns
returns c =
    let a = c.args in
    record {
      ends = λ e. absurd (omega (arith, c.entry-item.ensures.2));
      goes = λ h.
          rw (← c.entry-item.ensures.0) at
          (ahead_entry a.image.now a.m a.c c.requires.3 c.requires.2);
      less = λ h. omega arith;
      valid = record { few = omega arith; within = omega arith; used_small = omega arith; page_small = omega arith };
      held = inl (omega arith, omega arith);
      small = omega (arith, c.entry-item.ensures.1);
    }
