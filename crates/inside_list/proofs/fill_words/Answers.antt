use Rattle.inside_list.specs.Filling.{filling_start, filling_done, word_inside, word_room, filling_on}
use Rattle.inside_list.proofs.fill_words.Goals as goal
use Rattle.items.specs.Kinds.{same_kind, other_kind}
use Rattle.items.specs.declared.Kind.TheVariants.{End}

pub loop-m-init : goal.loop-m-init
loop-m-init c =
    let a = c.args in
    filling_start a.image.now a.m a.places.now a.i c.start-c.result c.start-c.ensures c.requires.1

pub step-t-requires : goal.step-t-requires
step-t-requires c = (c.requires.0, c.loop-m.invariant.valid)

pub shape_of-places-then-eq : goal.shape_of-places-then-eq
shape_of-places-then-eq c = c.loop-m.invariant.long

pub returns-then-eq : goal.returns-then-eq
returns-then-eq c =
    let L = c.loop-m in
    let a = c.args in
    filling_done a.image.now a.m a.places.now a.i L.places L.n L.c c.step-t.result L.invariant
    c.step-t.ensures (same_kind _ End c.eq.ensures c.if-eq.true)

pub fill_word-n-requires : goal.fill_word-n-requires
fill_word-n-requires c =
    let L = c.loop-m in
    let a = c.args in (
      L.invariant.code,
      word_inside a.image.now a.m a.places.now a.i L.places L.n L.c c.step-t.result L.invariant
          c.step-t.ensures (other_kind _ End c.eq.ensures c.if-eq.false),
      word_room a.image.now a.m a.places.now a.i L.places L.n L.c c.step-t.result L.invariant
          c.step-t.ensures (other_kind _ End c.eq.ensures c.if-eq.false) c.requires.2,
    )

pub loop-m-smaller : goal.loop-m-smaller
loop-m-smaller c =
    c.step-t.ensures.less (other_kind _ End c.eq.ensures c.if-eq.false)

pub loop-m-preserved : goal.loop-m-preserved
loop-m-preserved c =
    let L = c.loop-m in
    let a = c.args in
    filling_on a.image.now a.m a.places.now a.i L.places L.n L.c c.step-t.result L.invariant
    c.step-t.ensures (other_kind _ End c.eq.ensures c.if-eq.false) c.fill_word-n.new.places c.fill_word-n.result c.fill_word-n.ensures
