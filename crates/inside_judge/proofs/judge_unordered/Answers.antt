use Prim.Native.Nat.{◌+◌, ◌-◌}
use mathlib.Core.Path.{◌≡◌}
use native.Mathlib.Omega.{arith}
use Rattle.inside_judge.specs.RunsLaws.{on_join, entries_cut, any_by}
use Rattle.inside_judge.proofs.judge_unordered.Goals as goal

pub returns : goal.returns
returns c =
    let a = c.args in
    let xs = a.image.now in
    let n = c.any-n.result in
    let first = any_by xs a.m a.q c.requires.fits.1 a.limits c.requires.holds.0 a.at n a.judged
    c.astray-r.result c.any-n.ensures.1 c.astray-r.ensures in
    let all = on_join _ _ a.limits a.judged c.astray-r.result c.judge_rest.result first c.judge_rest.ensures in
    let cut = entries_cut xs a.m a.q.page a.at n (a.k - n) in
    let e : n + (a.k - n) ≡ a.k = omega (arith, c.any-n.ensures.0) in
    rw e at (rw (← cut) at all)
