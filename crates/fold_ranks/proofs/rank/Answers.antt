use Rattle.std.proofs.Common.{◌≡◌, length, length-set, refl, sym, arith}
use Rattle.fold_ranks.specs.RanksLaws.{sum_none, sum_one, summed_none, summed_next}
use Rattle.fold_ranks.proofs.rank.Goals as goal

pub loop-i-init : goal.loop-i-init
loop-i-init c = (sym (sum_none _), omega arith, summed_none _ _, refl)

pub bounds-ranks-i : goal.bounds-ranks-i
bounds-ranks-i c = omega (arith, c.loop-i.invariant.3, c.requires.0)

pub overflow_add-sum : goal.overflow_add-sum
overflow_add-sum c = omega (arith, c.size_of-sum.ensures.1, c.loop-i.invariant.1, c.requires.1)

pub loop-i-preserved : goal.loop-i-preserved
loop-i-preserved c =
    let L = c.loop-i in
    let x = c.args.words.now in
    (omega (arith, sum_one x L.i, c.size_of-sum.ensures.0), omega (arith, c.size_of-sum.ensures.1), summed_next _ _ _ _ (omega (arith, L.invariant.3, c.requires.0)) L.invariant.0 L.invariant.2, simp length-set L.invariant.3)

pub shape_of-ranks : goal.shape_of-ranks
shape_of-ranks c = c.loop-i.invariant.3

pub returns : goal.returns
returns c =
    let L = c.loop-i in
    let e : L.i ≡ length c.args.words.now = omega arith in
    record { value = (rw e at L.invariant.0, rw e at L.invariant.2); upper_bound = (omega (arith, c.requires.1), L.invariant.3) }
