use Prim.Native.Nat.{◌-◌}
use mathlib.Core.Path.{◌≡◌}
use native.Mathlib.Omega.{arith}
use Rattle.inside_blocks.specs.Blocks.{heads_from}
use Rattle.inside_blocks.specs.BlocksLaws.{heads_next, heads_none}
use Rattle.inside_judge.specs.JudgesLaws.{on_none}
use Rattle.inside_judge.specs.PartsLaws.{on_first, start_heads}
use Rattle.inside_judge.proofs.judge_heads.Goals as goal

pub loop-k-init : goal.loop-k-init
loop-k-init c = λ u on. rw (start_heads _ _ c.start-heads.ensures) at on

pub loop-k-preserved : goal.loop-k-preserved
loop-k-preserved c =
    λ u on.
    let a = c.args in
    let k = c.loop-k.k in
    c.loop-k.invariant u
    (rw (heads_next a.m k (omega arith), ← c.head_item-x.ensures.0)
    (on_first c.head_item-x.result (heads_from a.m (k - 1)) a.limits c.loop-k.r c.note-r.result u c.note-r.ensures on))

pub returns : goal.returns
returns c =
    let a = c.args in
    let e : c.loop-k.k ≡ 0 = omega arith in
    c.loop-k.invariant c.loop-k.r (rw (e, heads_none a.m) (on_none a.limits c.loop-k.r))
