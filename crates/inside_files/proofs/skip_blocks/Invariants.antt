use Prim.Native.Nat.{◌*◌}
use Rattle.inside_files.specs.Free.{Full}
use Rattle.inside_files.proofs.skip_blocks.Given as goal

abbrev pub invariant-loop-i : goal.invariant-loop-i
invariant-loop-i l = Full l.image l.f (32 * l.i)
