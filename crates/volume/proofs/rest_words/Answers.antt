use Rattle.volume.specs.SumLaws.{sum_from}
use native.Mathlib.Numerals.{add-one}
use mathlib.Core.Path.{◌≡◌}
use native.Mathlib.Omega.{arith}
use borrow.Author.Rules.{rules}
use Rattle.volume.proofs.rest_words.Goals as goal

pub loop-j-init : goal.loop-j-init
unfolding sum_from
loop-j-init c = search rules

pub loop-j-preserved : goal.loop-j-preserved
unfolding sum_from
loop-j-preserved c = rw add-one (omega arith)

pub returns : goal.returns
returns c =
    let e : c.args.k ≡ c.loop-j.j = omega arith in
    rw e (c.loop-j.invariant.1, c.loop-j.invariant.2)
