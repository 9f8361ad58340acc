use Rattle.std.specs.Prelude.{not}
use Rattle.std.proofs.Common.{ap}
use Prim.Native.Nat.{◌+◌, ◌-◌}
use mathlib.Core.Path.{◌≡◌}
use native.Mathlib.Omega.{arith}
use Rattle.facts.specs.FactLaws.{granted}
use Rattle.inside_pages.specs.PagesLaws.{paged_own}
use Rattle.inside_judge.specs.RunsLaws.{on_join, entries_cut, gap_on}
use Rattle.inside_judge.proofs.judge_entries.Goals as goal

pub judge_rest-requires : goal.judge_rest-requires
judge_rest-requires c =
    let pre = c.requires in
    let q = c.page_of-q.ensures in
    (pre.0, paged_own _ _ _ _ q, omega (arith, q.is, pre.1), pre.2)

pub returns-then-not-is_clear : goal.returns-then-not-is_clear
returns-then-not-is_clear c = rw c.page_of-q.ensures.is at c.judge_rest.ensures

pub judge_unordered-requires : goal.judge_unordered-requires
judge_unordered-requires c =
    let pre = c.requires in
    let q = c.page_of-q.ensures in record { fits = (pre.0, paged_own _ _ _ _ q, omega (arith, q.is, pre.1), omega (arith, c.pass_words-passed.ensures.0, pre.2)); holds = (granted c.is_clear.ensures (ap not c.if-not-is_clear.false), omega (arith, q.within, pre.0.within, pre.0.long)) }

pub returns : goal.returns
returns c =
    let a = c.args in
    let xs = a.image.now in
    let q = c.page_of-q.result in
    let n = c.pass_words-passed.result.count in
    let clear = granted c.is_clear.ensures (ap not c.if-not-is_clear.false) in
    let run = gap_on xs a.m q (paged_own _ _ _ _ c.page_of-q.ensures) a.limits clear a.at n _ a.judged
    c.later-r.result c.pass_words-passed.ensures.1 c.later-r.ensures in
    let all = on_join _ _ a.limits a.judged c.later-r.result c.judge_unordered.result run c.judge_unordered.ensures in
    let cut = entries_cut xs a.m q.page a.at n (a.k - n) in
    let e : n + (a.k - n) ≡ a.k = omega (arith, c.pass_words-passed.ensures.0) in
    rw c.page_of-q.ensures.is at (rw e at (rw (← cut) at all))
