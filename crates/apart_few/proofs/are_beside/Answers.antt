use Rattle.std.specs.Prelude.{not}
use Rattle.std.proofs.Common.{ap}
use native.Mathlib.Omega.{arith}
use Rattle.facts.specs.FactLaws.{granted}
use Rattle.items.specs.ItemsLaws.{each_none, each_join}
use Rattle.apart_front.specs.FrontsLaws.{fronts_none, fronts_join}
use Rattle.inside_files.specs.Parts as files
use Rattle.inside_files.specs.PartsLaws.{first_valid}
use Rattle.inside_walk.specs.Whole.{spread, walked}
use Rattle.inside_judge.specs.Rules.{patch_items}
use Rattle.inside_judge.specs.Parts.{part_items}
use Rattle.inside_judge.specs.PartsLaws.{spread_next, spread_none, walked_parts}
use Rattle.apart_strokes.specs.StrokesLaws.{false_true}
use Rattle.apart_few.specs.Few.{besides}
use Rattle.apart_few.specs.FewLaws.{beside_ordered}
use Rattle.apart_few.proofs.are_beside.Goals as goal
use Rattle.inside_files.specs.PartKinds.{same_part, other_part}
use Rattle.inside_files.specs.declared.PartKind.TheVariants.{End}

pub first-s-requires : goal.first-s-requires
first-s-requires c =
    let w = c.requires.0 in (w.head, w.small)

pub loop-front-init : goal.loop-front-init
loop-front-init c =
    let a = c.args in
    let xs = a.image.now in
    let w = c.requires.0 in
    let all = walked_parts xs a.v a.f in
    rw c.first-s.ensures (
      first_valid xs a.v a.f (omega (arith, w.within, w.small)) w.ends w.low w.section,
      omega arith,
      λ g on. rw all on,
      λ on. rw all on,
    )

pub step-u-requires : goal.step-u-requires
step-u-requires c =
    let w = c.requires.0 in (w.within, omega (arith, w.within, w.small), c.loop-front.invariant.0)

pub returns-then-eq : goal.returns-then-eq
returns-then-eq c =
    λ e.
    let a = c.args in
    let xs = a.image.now in
    let ps = patch_items xs a.t a.n in
    let inv = c.loop-front.invariant in
    let f = c.loop-front.front in
    let ends = c.step-u.ensures.ends (same_part _ End c.eq.ensures c.if-eq.true) in
    beside_ordered ps (walked xs a.v a.f) f (inv.2 f (rw (ends, spread_none xs) (fronts_none f))) inv.1
    (inv.3 (rw (ends, spread_none xs) (each_none (besides ps))))

pub pass_part-front-requires : goal.pass_part-front-requires
pass_part-front-requires c =
    let on = c.step-u.ensures in
    (c.requires.1, on.small, λ k. let i = on.inside k in (i.0, omega (arith, i.1, c.requires.0.within)))

pub returns-then-not-is_ordered : goal.returns-then-not-is_ordered
returns-then-not-is_ordered c = λ e. false_true e

pub loop-front-smaller : goal.loop-front-smaller
loop-front-smaller c = c.step-u.ensures.less (other_part _ End c.eq.ensures c.if-eq.false)

pub loop-front-preserved : goal.loop-front-preserved
loop-front-preserved c =
    let a = c.args in
    let xs = a.image.now in
    let on = c.step-u.ensures in
    let p = c.step-u.result.part in
    let rest = files.ahead xs a.v c.step-u.result.next in
    let ps = patch_items xs a.t a.n in
    let inv = c.loop-front.invariant in
    let is = on.goes (other_part _ End c.eq.ensures c.if-eq.false) in
    let ok = granted c.is_ordered.ensures (ap not c.if-not-is_ordered.false) in
    let one = c.pass_part-front.ensures in (
      on.valid,
      ok,
      λ g then.
          inv.2 g
          (rw (is, spread_next xs p rest)
          (fronts_join c.loop-front.front c.pass_part-front.result g (part_items xs p) (spread xs rest) one.front then)),
      λ then. inv.3 (rw (is, spread_next xs p rest) (each_join (besides ps) (part_items xs p) (spread xs rest) (one.beside ok) then)),
    )
