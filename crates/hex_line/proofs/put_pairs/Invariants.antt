use Rattle.std.proofs.Common.{◌*◌, ◌≤◌, ◌≡◌, length, take}
use Rattle.hex_line.specs.Written.{WrotePairs}
use Rattle.hex_line.proofs.put_pairs.Given as goal

abbrev pub invariant-loop-j : goal.invariant-loop-j
invariant-loop-j l = WrotePairs l.initial.out l.out l.at (take l.j l.bytes) l.sum × (length l.out ≡ length l.initial.out) × (l.sum ≤ 255 * l.j)
