use Rattle.audit_list.specs.Filling.{Filled}
use Rattle.audit_count.specs.Windows.{Within, at_word}
use Rattle.audit_step.specs.Stride.{by}
use Rattle.audit_tables.specs.Ahead.{Known}
use lib.ListN.{length}
use Prim.Native.Nat.{◌-◌}
use Rattle.audit_list.proofs.fill_window.Given as goal

abbrev pub invariant-loop-m : goal.invariant-loop-m
invariant-loop-m g l = Filled g.U.Unit.writing (by l.vendor l.r l.d.four l.d.eight) l.shipped l.r l.initial.places l.places l.initial.g
    l.g × Known l.vendor l.r l.ranks l.g.at l.g.ahead × Within l.vendor l.r l.marks l.g.at (at_word l.q l.m)

abbrev pub decreases-loop-m : goal.decreases-loop-m
decreases-loop-m g l = length l.vendor - l.g.at
