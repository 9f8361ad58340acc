use Prim.Native.Nat.{◌+◌, ◌*◌, ◌≤◌}
use mathlib.Core.Path.{◌≡◌}
use lib.ListN.{length, take}
use Rattle.text_lines.specs.Lines.{Wrote}
use Rattle.text_answer.specs.Told.{place_lines}
use Rattle.text_answer.proofs.put_places.Given as goal

-- The loop's invariant: the lines of the first places are written, 13 bytes each at most.
-- Assumes nothing.
abbrev pub invariant-loop-place : goal.invariant-loop-place
invariant-loop-place l = Wrote l.initial.out l.out l.at (place_lines (take l.place-index l.places)) l.p × (l.p ≤ l.at + 13 * l.place-index) × (length l.out ≡ length l.initial.out)
