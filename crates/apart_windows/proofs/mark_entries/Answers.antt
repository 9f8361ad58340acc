use Rattle.std.specs.Prelude.{not}
use Rattle.std.proofs.Common.{ap}
use Rattle.words.specs.Le.{le}
use Rattle.inside_pages.specs.PagesLaws.{paged_own}
use Rattle.inside_blocks.specs.Blocks.{item_of}
use Rattle.apart_windows.specs.RunsLaws.{entered_none, entered_next, entered_not, entered_all}
use Prim.Native.Nat.{◌+◌, ◌*◌}
use borrow.Author.Tests.{not-true, not-false}
use mathlib.Core.Path.{◌≡◌}
use native.Mathlib.Omega.{arith}
use Rattle.apart_windows.proofs.mark_entries.Goals as goal

-- the item of the entry at hand
is : (c : goal.Then-not-mark_item) →
    let a = c.args in
    c.entry_on-x.result ≡ item_of a.image.now a.m a.page (le 2 a.image.now (a.at + 2 * c.loop-i.i))
is c = rw c.page_of-q.ensures.is at c.entry_on-x.ensures.0

is-2 : (c : goal.After-max-top) →
    let a = c.args in
    c.entry_on-x.result ≡ item_of a.image.now a.m a.page (le 2 a.image.now (a.at + 2 * c.loop-i.i))
is-2 c = rw c.page_of-q.ensures.is at c.entry_on-x.ensures.0

pub loop-i-init : goal.loop-i-init
loop-i-init c =
    entered_none _ _ _ _ _ _ _

pub entry_on-x-requires : goal.entry_on-x-requires
entry_on-x-requires c =
    let pre = c.requires in
    let paged = c.page_of-q.ensures in
    (pre.0, paged_own _ _ _ _ paged, omega (arith, paged.is, pre.1), omega arith)

pub returns-then-not-mark_item : goal.returns-then-not-mark_item
returns-then-not-mark_item c =
    let inv = c.loop-i.invariant in
    entered_not _ _ _ _ _ _ _ _ _ _ _ inv _ _ c.mark_item.ensures (is c) (not-true _ (ap not c.if-not-mark_item.true)) _ (omega arith)

pub loop-i-preserved : goal.loop-i-preserved
loop-i-preserved c =
    entered_next _ _ _ _ _ _ _ _ _ _ _ c.loop-i.invariant _ _ c.mark_item.ensures (is-2 c) (not-false _ (ap not c.if-not-mark_item.false)) _
    (omega arith) (omega arith)

pub returns : goal.returns
returns c =
    entered_all _ _ _ _ _ _ _ _ _ _ _ c.loop-i.invariant (omega arith)
