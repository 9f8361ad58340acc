use Rattle.inside_blocks.specs.Blocks.{entries_from}
use Rattle.audit_fill_window.specs.NearLaws.{Below}
use Prim.Native.Nat.{◌+◌, ◌-◌, ◌*◌}
use Rattle.audit_fill_window.proofs.any_new.Given as goal

abbrev pub invariant-loop-i : goal.invariant-loop-i
invariant-loop-i l = Below (entries_from l.image l.m l.page l.at l.k) (entries_from l.image l.m l.page (l.at + 2 * l.i) (l.k - l.i)) l.least
