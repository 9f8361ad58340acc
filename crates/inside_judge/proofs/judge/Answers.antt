use mathlib.Core.List.{[]}
use mathlib.Core.Path.{refl}
use native.Mathlib.Omega.{arith}
use Rattle.inside_files.specs.Parts as files
use Rattle.inside_files.specs.PartsLaws.{first_valid}
use Rattle.inside_walk.specs.Whole.{spread}
use Rattle.inside_judge.specs.JudgesLaws.{judges_none, on_none}
use Rattle.inside_judge.specs.RunsLaws.{on_join}
use Rattle.inside_judge.specs.Parts.{part_items}
use Rattle.inside_judge.specs.PartsLaws.{spread_next, spread_none, walked_parts}
use Rattle.inside_judge.proofs.judge.Goals as goal
use Rattle.inside_files.specs.PartKinds.{same_part, other_part}
use Rattle.inside_files.specs.declared.PartKind.TheVariants.{End}

pub loop-limits-init : goal.loop-limits-init
loop-limits-init c =
    let a = c.args in
    let xs = a.image.now in
    let w = c.requires in
    rw c.first-s.ensures
    (first_valid xs a.v a.f (omega (arith, w.within, w.small)) w.ends w.low w.section, λ u on. rw (walked_parts xs a.v a.f) on)

pub step-t-requires : goal.step-t-requires
step-t-requires c =
    let w = c.requires in (w.within, omega (arith, w.within, w.small), c.loop-limits.invariant.0)

pub returns-then-eq : goal.returns-then-eq
returns-then-eq c =
    let a = c.args in
    let xs = a.image.now in
    let r = c.loop-limits.r in
    c.loop-limits.invariant.1 r (rw (c.step-t.ensures.ends (same_part _ End c.eq.ensures c.if-eq.true), spread_none xs) (on_none a.limits r)) a.front []
    (judges_none a.limits _ refl refl refl)

pub judge_part-r-requires : goal.judge_part-r-requires
judge_part-r-requires c =
    let w = c.requires in
    let on = c.step-t.ensures in
    record { image_len_bound = (w.small, on.small); le_len = λ k. let i = on.inside k in (i.0, omega (arith, i.1, w.within)) }

pub loop-limits-smaller : goal.loop-limits-smaller
loop-limits-smaller c = c.step-t.ensures.less (other_part _ End c.eq.ensures c.if-eq.false)

pub loop-limits-preserved : goal.loop-limits-preserved
loop-limits-preserved c =
    let a = c.args in
    let xs = a.image.now in
    let on = c.step-t.ensures in
    let p = c.step-t.result.part in
    let rest = files.ahead xs a.v c.step-t.result.next in (
      on.valid,
      λ u then.
          c.loop-limits.invariant.1 u
          (rw (on.goes (other_part _ End c.eq.ensures c.if-eq.false), spread_next xs p rest)
          (on_join (part_items xs p) (spread xs rest) a.limits c.loop-limits.r c.judge_part-r.result u
          c.judge_part-r.ensures then)),
    )
