use Prim.Native.Nat.{◌+◌}
use mathlib.Core.Path.{◌≡◌}
use lib.ListN.{length}
use Rattle.text_lines.specs.Lines.{Wrote}
use Rattle.hex_judge.specs.Stands.{bytes_at}
use Rattle.hex_bytes.proofs.put_bytes.Given as goal

-- Assumes nothing.
abbrev pub invariant-loop-j : goal.invariant-loop-j
invariant-loop-j l = (length l.out ≡ length l.initial.out) × Wrote l.initial.out l.out l.i (bytes_at l.text l.at l.j) (l.i + l.j)
