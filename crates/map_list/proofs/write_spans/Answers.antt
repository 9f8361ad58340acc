use Rattle.std.proofs.Common.{arith}
use Rattle.map_free.specs.FreeLaws.{none_above}
use Rattle.map_free.specs.Look.{swept_none}
use Rattle.map_list.specs.MapLaws.{listing_start, listing_none, listing_room, listing_next}
use Rattle.map_list.proofs.write_spans.Goals as goal

pub loop-s-init : goal.loop-s-init
loop-s-init c = (listing_start _ _, rw c.start-sweep.ensures (swept_none _ _))

pub put_span-requires : goal.put_span-requires
put_span-requires c =
    let walk = c.loop-s.invariant.0 in
    omega (arith, listing_room walk c.requires.0.fit _ c.in-Some.ensures.0.run, c.requires.0.few, walk.sized)

pub overflow_add-count : goal.overflow_add-count
overflow_add-count c = omega (arith, listing_room c.loop-s.invariant.0 c.requires.0.fit _ c.in-Some.ensures.0.run, c.requires.0.few)

pub returns-then-s : goal.returns-then-s
returns-then-s c =
    let walk = listing_next c.loop-s.invariant.0 c.requires.0.fit _ c.in-Some.ensures.0.run in
    rw c.put_span.ensures (listing_none walk c.requires.0.fit (none_above c.args.rows.now c.requires.0.fit _ c.if-s.true))

pub loop-s-preserved : goal.loop-s-preserved
loop-s-preserved c =
    let next = c.in-Some.ensures in
    (rw c.put_span.ensures (listing_next c.loop-s.invariant.0 c.requires.0.fit _ next.0.run), next.1)

pub returns : goal.returns
returns c = listing_none c.loop-s.invariant.0 c.requires.0.fit c.in_default.ensures
