use Rattle.std.proofs.Common.{◌+◌, ◌-◌, ◌*◌}
use Rattle.inside_pages.specs.Pages.{Paged}
use Rattle.move_modules.specs.Relocate.{shift, Passed}
use Rattle.move_modules.proofs.add_entries.Given as goal

abbrev pub invariant-loop-i : goal.invariant-loop-i
invariant-loop-i l = Passed l.initial.image l.m l.page l.at l.count (shift l.d.four l.d.eight) l.image (l.at + 2 * l.i) (l.count - l.i) × Paged l.image l.m l.page l.q
