use Rattle.std.proofs.Common.{arith}
use Rattle.piece_stretch.specs.StretchLaws.{until_part, same_part}
use Rattle.piece_stretch.proofs.next.Goals as goal

pub returns-in-Some : goal.returns-in-Some
returns-in-Some c =
    let a = c.args in
    let (u, less) = c.in-Some.ensures in
    (until_part a.a.now a.b.now a.o a.from a.to c.in-Some.k (omega arith) (omega arith) u, omega arith)

pub returns-in-None : goal.returns-in-None
returns-in-None c =
    let a = c.args in
    same_part a.a.now a.b.now a.o a.from a.to (omega arith) (omega arith) c.in-None.ensures
