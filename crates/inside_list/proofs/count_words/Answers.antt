use Rattle.inside_list.specs.Counting.{words_first, words_end, words_next, words_room}
use Rattle.inside_list.proofs.count_words.Goals as goal
use Rattle.items.specs.Kinds.{same_kind, other_kind}
use Rattle.items.specs.declared.Kind.TheVariants.{End}

pub loop-m-init : goal.loop-m-init
loop-m-init c =
    let a = c.args in
    words_first a.image.now a.m c.start-c.result c.start-c.ensures

pub step-t-requires : goal.step-t-requires
step-t-requires c = (c.requires, c.loop-m.invariant.valid)

pub returns-then-eq : goal.returns-then-eq
returns-then-eq c =
    let a = c.args in
    words_end a.image.now a.m c.loop-m.n c.loop-m.c c.step-t.result c.loop-m.invariant
    c.step-t.ensures (same_kind _ End c.eq.ensures c.if-eq.true)

pub count_word-n-requires : goal.count_word-n-requires
count_word-n-requires c =
    let a = c.args in
    words_room a.image.now a.m c.loop-m.n c.loop-m.c c.step-t.result c.loop-m.invariant
    c.step-t.ensures c.requires

pub loop-m-smaller : goal.loop-m-smaller
loop-m-smaller c =
    c.step-t.ensures.less (other_kind _ End c.eq.ensures c.if-eq.false)

pub loop-m-preserved : goal.loop-m-preserved
loop-m-preserved c =
    let a = c.args in
    words_next a.image.now a.m c.loop-m.n c.loop-m.c c.step-t.result c.loop-m.invariant
    c.step-t.ensures (other_kind _ End c.eq.ensures c.if-eq.false) c.count_word-n.result c.count_word-n.ensures
