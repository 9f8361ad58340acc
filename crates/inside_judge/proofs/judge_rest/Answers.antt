use mathlib.Core.Path.{◌≡◌}
use native.Mathlib.Numerals.{add-one}
use native.Mathlib.Omega.{arith}
use Rattle.inside_blocks.specs.Blocks.{entries_from}
use Rattle.inside_blocks.specs.BlocksLaws.{entries_more}
use Rattle.inside_judge.specs.JudgesLaws.{on_none, on_more}
use Rattle.inside_judge.proofs.judge_rest.Goals as goal

pub loop-i-init : goal.loop-i-init
unfolding entries_from
loop-i-init c = let a = c.args in on_none a.limits a.judged

pub loop-i-preserved : goal.loop-i-preserved
loop-i-preserved c =
    let a = c.args in
    let xs = a.image.now in
    let i = c.loop-i.i in
    let on = on_more (entries_from xs a.m a.q.page a.at i) a.limits a.judged c.loop-i.r c.note-r.result
    c.entry_on-x.result c.loop-i.invariant c.note-r.ensures in
    rw (add-one, entries_more xs a.m a.q.page a.at i, ← c.entry_on-x.ensures.0) on

pub returns : goal.returns
returns c =
    let e : c.loop-i.i ≡ c.args.k = omega arith in
    rw e at c.loop-i.invariant
