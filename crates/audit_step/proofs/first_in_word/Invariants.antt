use Rattle.std.proofs.Common.{◌≤◌}
use Rattle.audit_step.specs.Stride.{Written}
use Rattle.audit_step.proofs.first_in_word.Given as goal

abbrev pub invariant-loop-k : goal.invariant-loop-k
invariant-loop-k l = (l.from ≤ l.k) × Written l.shipped l.p l.w l.from l.k
