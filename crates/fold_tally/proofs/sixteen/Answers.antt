use Rattle.fold_tally.specs.Tally.{Blank}
use Rattle.fold_tally.specs.TallyLaws.{or_none, blank_join}
use Prim.Native.Nat.{◌+◌}
use lib.Bits.{bit_or}
use borrow.Author.Tests.{eqb-true}
use native.Mathlib.Omega.{arith}
use Rattle.fold_tally.proofs.sixteen.Goals as goal

pub returns : goal.returns
returns c =
    λ e.
    let a = c.args in
    let ys = a.cells.now in
    let i = a.i in
    let w = c.four-a.result in
    let x = c.four-b.result in
    let y = c.four-c.result in
    let z = c.four-d.result in
    let last = or_none (bit_or (bit_or w x) y) z (eqb-true (bit_or (bit_or (bit_or w x) y) z) 0 e) in
    let three = or_none (bit_or w x) y last.0 in
    let two = or_none w x three.0 in
    let b2 : Blank ys (i + 4) (i + 8) = λ j h l. c.four-b.ensures two.1 j h (omega arith) in
    let b3 : Blank ys (i + 8) (i + 12) = λ j h l. c.four-c.ensures three.1 j h (omega arith) in
    let b4 : Blank ys (i + 12) (i + 16) = λ j h l. c.four-d.ensures last.1 j h (omega arith) in
    blank_join ys i (i + 4) (i + 16) (c.four-a.ensures two.0)
    (blank_join ys (i + 4) (i + 8) (i + 16) b2 (blank_join ys (i + 8) (i + 12) (i + 16) b3 b4))
