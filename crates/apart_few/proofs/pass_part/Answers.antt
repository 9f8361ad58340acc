use Rattle.std.specs.Prelude.{not}
use Rattle.std.proofs.Common.{ap}
use borrow.Author.Tests.{not-false}
use Rattle.inside_judge.specs.Rules.{patch_items}
use Rattle.apart_few.specs.FewLaws.{past_one, past_lost}
use Rattle.apart_few.proofs.pass_part.Goals as goal

pub module_in-m-requires : goal.module_in-m-requires
module_in-m-requires c = let pre = c.requires in (pre.0.small, pre.2)

pub returns-then-not-is_bare : goal.returns-then-not-is_bare
returns-then-not-is_bare c = past_lost _ _ _ _ c.lost.ensures

pub is_beside-requires : goal.is_beside-requires
is_beside-requires c = (c.requires.0, c.item_for-x.ensures.2)

pub returns-then-not-is_beside : goal.returns-then-not-is_beside
returns-then-not-is_beside c = past_lost _ _ _ _ c.lost-then-not-is_beside.ensures

pub pass-requires : goal.pass-requires
pass-requires c = c.item_for-x.ensures.2

pub returns : goal.returns
returns c =
    let a = c.args in
    let xs = a.image.now in
    let is = c.module_in-m.ensures in
    let same = c.item_for-x.ensures.0 in
    past_one (patch_items xs a.t a.n) xs a.p a.front c.pass.result
    (rw is at (c.is_bare.ensures (not-false _ (ap not c.if-not-is_bare.false))))
    (rw (← is, ← same) (c.is_beside.ensures (not-false _ (ap not c.if-not-is_beside.false)))) (rw (← is, ← same) c.pass.ensures)
