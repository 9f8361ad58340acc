use Rattle.audit_lay.specs.Lay.{value}
use Rattle.inside_blocks.specs.Blocks.{entries_from}
use Rattle.audit_window.specs.Window.{Draws}
use Rattle.audit_window.specs.WindowLaws.{Below}
use Prim.Native.Nat.{◌+◌, ◌-◌, ◌*◌}
use mathlib.Core.Bool.{false}
use mathlib.Core.Path.{◌≡◌}
use lib.ListN.{length}
use Rattle.audit_window.proofs.lay_each.Given as goal

abbrev pub invariant-loop-i : goal.invariant-loop-i
invariant-loop-i l = (length l.window ≡ length l.initial.window)
    × Draws (value l.image l.d.four l.d.eight) (entries_from l.image l.m l.q.page l.at l.k) (entries_from l.image l.m l.q.page (l.at + 2 * l.i) (l.k - l.i)) l.from (length l.initial.window) l.initial.window l.window
    × (l.late ≡ false → Below (entries_from l.image l.m l.q.page l.at l.k) (entries_from l.image l.m l.q.page (l.at + 2 * l.i) (l.k - l.i)) (l.from + length l.initial.window))
