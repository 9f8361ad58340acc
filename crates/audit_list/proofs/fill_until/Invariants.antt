use Rattle.audit_list.specs.Filling.{Filled}
use Rattle.audit_step.specs.Stride.{by}
use Rattle.audit_tables.specs.Ahead.{Known}
use Prim.Native.Nat.{◌-◌}
use Rattle.audit_list.proofs.fill_until.Given as goal

abbrev pub invariant-loop-g : goal.invariant-loop-g
invariant-loop-g g l = Filled g.U.Unit.writing (by l.vendor l.r l.d.four l.d.eight) l.shipped l.r l.initial.places l.places l.initial.g l.g
    × Known l.vendor l.r l.ranks l.g.at l.g.ahead

abbrev pub decreases-loop-g : goal.decreases-loop-g
decreases-loop-g g l = l.end - l.g.at
