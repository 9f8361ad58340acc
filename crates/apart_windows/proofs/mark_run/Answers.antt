use native.Mathlib.Omega.{arith}
use Rattle.std.specs.Prelude.{not}
use Rattle.std.proofs.Common.{ap}
use Rattle.apart_windows.specs.RunsLaws.{reached_not, reached_run}
use borrow.Author.Tests.{not-true, not-false}
use Rattle.apart_windows.proofs.mark_run.Goals as goal

pub returns-then-not-mark_item : goal.returns-then-not-mark_item
returns-then-not-mark_item c =
    reached_not _ _ _ _ _ _ _ c.mark_item.ensures (not-true _ (ap not c.if-not-mark_item.true))

pub returns : goal.returns
returns c =
    reached_run _ _ _ _ _ _ _ _ _ _ c.mark_item.ensures (not-false _ (ap not c.if-not-mark_item.false)) (omega arith) (omega arith)
    (rw c.entries-n.ensures at c.mark_entries.ensures)
