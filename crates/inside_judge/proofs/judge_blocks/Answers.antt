use mathlib.Core.List.{◌++◌}
use Prim.Native.Nat.{◌-◌}
use mathlib.Core.Path.{◌≡◌}
use native.Mathlib.Omega.{arith}
use Rattle.inside_blocks.specs.Blocks.{entries_from, blocks_from}
use Rattle.inside_blocks.specs.BlocksLaws.{blocks_end}
use Rattle.inside_judge.specs.JudgesLaws.{on_none}
use Rattle.inside_judge.specs.RunsLaws.{on_join}
use Rattle.inside_judge.specs.PartsLaws.{on_first}
use Rattle.inside_judge.proofs.judge_blocks.Goals as goal

pub loop-used-init : goal.loop-used-init
loop-used-init c =
    λ u on.
    let a = c.args in
    let e : a.m.size - 0 ≡ a.m.size = omega arith in
    rw e at on

pub loop-used-preserved : goal.loop-used-preserved
loop-used-preserved c =
    λ u on.
    let a = c.args in
    let xs = a.image.now in
    let next = c.block_at-t.result.next in
    let entries = entries_from xs a.m next.page next.at next.left in
    let blocks = blocks_from xs a.m (a.m.size - next.used) next.used in
    let noted = c.note-s in
    let rest = on_join entries blocks a.limits noted.result c.judge_entries-r.result u c.judge_entries-r.ensures on in
    c.loop-used.invariant u
    (rw c.block_at-t.ensures.all
    (on_first c.block_at-t.result.item (entries ++ blocks) a.limits c.loop-used.r noted.result u noted.ensures rest))

pub returns : goal.returns
returns c =
    let a = c.args in
    let used = c.loop-used.used in
    c.loop-used.invariant c.loop-used.r
    (rw (blocks_end a.image.now a.m (a.m.size - used) used (omega arith)) (on_none a.limits c.loop-used.r))
