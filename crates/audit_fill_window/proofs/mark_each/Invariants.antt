use Rattle.inside_blocks.specs.Blocks.{entries_from}
use Rattle.audit_fill_window.specs.Near.{Noting}
use Rattle.audit_fill_window.specs.NearLaws.{Below}
use Prim.Native.Nat.{◌+◌, ◌-◌, ◌*◌}
use mathlib.Core.Bool.{false}
use mathlib.Core.Path.{◌≡◌}
use lib.ListN.{length}
use Rattle.audit_fill_window.proofs.mark_each.Given as goal

abbrev pub invariant-loop-i : goal.invariant-loop-i
invariant-loop-i l = (length l.marks ≡ length l.initial.marks)
    × Noting (entries_from l.image l.m l.q.page l.at l.k) (entries_from l.image l.m l.q.page (l.at + 2 * l.i) (l.k - l.i)) l.from l.n l.initial.marks l.marks
    × (l.late ≡ false → Below (entries_from l.image l.m l.q.page l.at l.k) (entries_from l.image l.m l.q.page (l.at + 2 * l.i) (l.k - l.i)) (l.from + l.n))
