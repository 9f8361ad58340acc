use Rattle.audit_tables.specs.Ahead.{Rest}
use Rattle.audit_tables.proofs.next_word.Given as goal

abbrev pub invariant-loop-i : goal.invariant-loop-i
invariant-loop-i l = Rest l.image l.r l.ranks l.at l.i
