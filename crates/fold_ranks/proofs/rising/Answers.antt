use Rattle.std.proofs.Common.{◌≡◌, length, arith}
use mathlib.Core.Bool.{false≢true}
use Rattle.fold_ranks.specs.RanksLaws.{climb_start, climb_next}
use Rattle.fold_ranks.proofs.rising.Goals as goal

pub loop-w-init : goal.loop-w-init
loop-w-init c = climb_start _ _

pub returns-then-start-free : goal.returns-then-start-free
returns-then-start-free c = λ e. absurd (false≢true e)

pub returns-then-size-eq0 : goal.returns-then-size-eq0
returns-then-size-eq0 c = λ e. absurd (false≢true e)

pub returns-then-top-start : goal.returns-then-top-start
returns-then-top-start c = λ e. absurd (false≢true e)

pub loop-w-preserved : goal.loop-w-preserved
loop-w-preserved c =
    let L = c.loop-w in
    let x = c.args.words.now in
    let a = c.start_of-start.ensures.0 in
    let z = c.size_of-size.ensures.0 in
    rw (a, z) (climb_next x L.w-index _ L.free L.invariant (omega arith) (omega arith) (omega arith) (omega (arith, c.start_of-start.ensures.1, c.size_of-size.ensures.1)))

pub returns : goal.returns
returns c =
    let L = c.loop-w in
    let e : L.w-index ≡ length c.args.words.now = omega arith in
    λ t. rw e at L.invariant.rising
