use Rattle.std.proofs.Common.{◌≡◌, ◌≤◌, ◌%◌}
use Rattle.digest_rounds.specs.Rounds.{rounds}
use Rattle.digest_rounds.proofs.all.Given as goal

abbrev pub invariant-loop-t : goal.invariant-loop-t
invariant-loop-t l = (l.t ≤ 64) × (l.t % 4 ≡ 0) × (l.v ≡ rounds l.k l.initial.v l.w l.t)
