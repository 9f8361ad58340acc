use Rattle.words.specs.Le.{Bytes}
use Rattle.move_modules.specs.Relocate.{shift, Moving}
use Rattle.move_modules.specs.RelocateLaws.{past_less, moving_start, moving_end, moving_inside, moving_next, moving_hand, moving_past}
use Rattle.std.proofs.Common.{arith}
use Rattle.move_modules.proofs.words.Goals as goal
use Rattle.items.specs.Kinds.{other_kind, same_kind}
use Rattle.items.specs.declared.Kind.TheVariants.{End}

-- the image's bytes are bytes
bytes : (c : goal.After-first-s) → Bytes c.args.image.now
unfolding Bytes
bytes c = λ i. omega (arith, c.slice_known-1.given i)

-- the step is made, its word moved
stepped : (c : goal.After-pass_entries-arg-1) →
    let a = c.args in
    Moving a.image.now a.v a.f (shift a.d.four a.d.eight) c.add_item.new.image c.step-t.result.next
stepped c =
    let a = c.args in
    moving_next a.image.now a.v a.f (shift a.d.four a.d.eight) c.requires c.loop-d.image
    c.loop-d.s c.step-t.result c.loop-d.invariant c.step-t.ensures (other_kind _ End c.eq.ensures c.if-eq.false) c.add_item.new.image
    c.add_item.ensures

stepped-2 : (c : goal.After-slice_known-in-loop-d-2-1) →
    let a = c.args in
    Moving a.image.now a.v a.f (shift a.d.four a.d.eight) c.add_item.new.image c.step-t.result.next
stepped-2 c =
    let a = c.args in
    moving_next a.image.now a.v a.f (shift a.d.four a.d.eight) c.requires c.loop-d.image
    c.loop-d.s c.step-t.result c.loop-d.invariant c.step-t.ensures (other_kind _ End c.eq.ensures c.if-eq.false) c.add_item.new.image
    c.add_item.ensures

pub first-s-requires : goal.first-s-requires
first-s-requires c = let w = c.requires.walkable in (w.head, w.small)

pub loop-d-init : goal.loop-d-init
loop-d-init c =
    let a = c.args in
    moving_start a.image.now a.v a.f (shift a.d.four a.d.eight) c.requires (bytes c) c.first-s.result
    c.first-s.ensures

pub step-t-requires : goal.step-t-requires
step-t-requires c =
    let w = c.requires.walkable in
    let g = c.loop-d.invariant in
    (omega (arith, w.within, g.long), omega (arith, w.small, g.long), g.valid)

pub shape_of-image-then-eq : goal.shape_of-image-then-eq
shape_of-image-then-eq c = c.loop-d.invariant.long

pub returns-then-eq : goal.returns-then-eq
returns-then-eq c =
    let a = c.args in
    moving_end a.image.now a.v a.f (shift a.d.four a.d.eight) c.requires c.loop-d.image
    c.loop-d.s c.step-t.result c.loop-d.invariant c.step-t.ensures (same_kind _ End c.eq.ensures c.if-eq.true)

pub add_item-requires : goal.add_item-requires
add_item-requires c =
    let a = c.args in
    moving_inside a.image.now a.v a.f (shift a.d.four a.d.eight) c.requires c.loop-d.image
    c.loop-d.s c.step-t.result c.loop-d.invariant c.step-t.ensures (other_kind _ End c.eq.ensures c.if-eq.false)

pub pass_entries-s-requires : goal.pass_entries-s-requires
pass_entries-s-requires c =
    let a = c.args in
    moving_hand a.image.now a.v a.f (shift a.d.four a.d.eight) c.requires c.add_item.new.image
    c.step-t.result.next (stepped c)

pub loop-d-smaller : goal.loop-d-smaller
loop-d-smaller c =
    past_less c.args.v c.loop-d.s c.step-t.result.next
    c.pass_entries-s.result c.pass_entries-s.ensures.0 (c.step-t.ensures.less (other_kind _ End c.eq.ensures c.if-eq.false))

pub loop-d-preserved : goal.loop-d-preserved
loop-d-preserved c =
    let a = c.args in
    moving_past a.image.now a.v a.f (shift a.d.four a.d.eight) c.requires c.add_item.new.image
    c.step-t.result.next (stepped-2 c) c.pass_entries-s.new.image c.pass_entries-s.result c.pass_entries-s.ensures.0
    c.pass_entries-s.ensures.1
