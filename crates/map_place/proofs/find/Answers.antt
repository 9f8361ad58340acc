use Rattle.map_free.specs.FreeLaws.{none_above}
use Rattle.map_free.specs.Look.{swept_none}
use Rattle.map_place.specs.PlaceLaws.{finding_start, finding_none, finding_here, finding_next}
use Rattle.map_place.proofs.find.Goals as goal

pub loop-s-init : goal.loop-s-init
loop-s-init c = (finding_start _ _, rw c.start-sweep.ensures (swept_none _ _))

pub returns-in-Some-base_in : goal.returns-in-Some-base_in
returns-in-Some-base_in c =
    finding_here c.loop-s.invariant.0 c.requires.0.fit _ c.in-Some.ensures.0.run c.requires.1 _ c.in-Some-base_in.ensures

pub returns-then-s : goal.returns-then-s
returns-then-s c =
    let walk = finding_next c.loop-s.invariant.0 c.requires.0.fit _ c.in-Some.ensures.0.run c.in_default-base_in.ensures in
    finding_none walk c.requires.0.fit (none_above c.args.rows.now c.requires.0.fit _ c.if-s.true)

pub loop-s-preserved : goal.loop-s-preserved
loop-s-preserved c =
    let next = c.in-Some.ensures in
    (finding_next c.loop-s.invariant.0 c.requires.0.fit _ next.0.run c.in_default-base_in.ensures, next.1)

pub returns : goal.returns
returns c = finding_none c.loop-s.invariant.0 c.requires.0.fit c.in_default.ensures
