use Rattle.apart_windows.specs.RunsLaws.{Entered}
use Rattle.apart_windows.proofs.mark_entries.Given as goal

abbrev pub invariant-loop-i : goal.invariant-loop-i
invariant-loop-i l = Entered l.image l.m l.page l.initial.marks l.marks l.w l.high l.at l.i l.top
