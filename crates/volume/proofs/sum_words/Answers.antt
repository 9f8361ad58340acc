use Rattle.volume.specs.SumLaws.{sum_turns, halves_add, halves_fit, by_turns}
use native.Mathlib.Numerals.{add-one}
use Prim.Native.Nat.{◌/◌}
use native.Mathlib.Nat.{le_antisymm}
use mathlib.Core.Path.{◌≡◌}
use native.Mathlib.Omega.{arith}
use Rattle.volume.proofs.sum_words.Goals as goal

pub loop-t-init : goal.loop-t-init
unfolding sum_turns
loop-t-init c = (omega arith, record { is = omega arith; low = omega arith; high = omega arith })

pub overflow_add-both : goal.overflow_add-both
overflow_add-both c = record { fits = halves_fit (omega arith) c.loop-t.invariant.1 c.four_words-both.ensures }

pub loop-t-preserved : goal.loop-t-preserved
unfolding sum_turns
loop-t-preserved c = rw add-one (omega arith, halves_add (omega arith) c.loop-t.invariant.1 c.four_words-both.ensures)

pub returns : goal.returns
returns c =
    let loop = c.loop-t in
    let last : loop.t ≡ c.args.n / 4 = le_antisymm loop.invariant.0 c.loop-t-test.false in
    rw (loop.invariant.1.is, last, c.rest_words.ensures.0) (by_turns c.args.image.now 4 c.args.n)
