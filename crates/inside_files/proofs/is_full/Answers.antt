use borrow.Author.Tests.{eqb-true}
use lib.Bits.{bit_or}
use Rattle.inside_files.specs.FreeLaws.{full_join}
use Rattle.inside_files.proofs.BitLaws.{or_none}
use Rattle.inside_files.proofs.is_full.Goals as goal

pub returns : goal.returns
returns c =
    λ e.
    let a = c.args in
    let w = c.unset-w.result in
    let x = c.unset-x.result in
    let y = c.unset-y.result in
    let z = c.unset-z.result in
    let four = or_none (bit_or (bit_or w x) y) z (eqb-true (bit_or (bit_or (bit_or w x) y) z) 0 e) in
    let three = or_none (bit_or w x) y four.0 in
    let two = or_none w x three.0 in
    let join = full_join a.image.now a.k in
    join 24 8 (join 16 8 (join 8 8 (c.unset-w.ensures two.0) (c.unset-x.ensures two.1)) (c.unset-y.ensures three.1))
    (c.unset-z.ensures four.1)
