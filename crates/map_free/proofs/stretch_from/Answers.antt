use Rattle.std.proofs.Common.{arith}
use Rattle.map_free.specs.Look.{stretch_reserved, stretch_free, stretch_none}
use Rattle.map_free.proofs.stretch_from.Goals as goal

pub returns-in-Some : goal.returns-in-Some
returns-in-Some c = let e = c.in-Some.ensures in stretch_reserved c.requires.0 c.requires.1 _ e.0 e.1 e.2

pub returns-in-Some-ahead : goal.returns-in-Some-ahead
returns-in-Some-ahead c =
    let e = c.in-Some-ahead.ensures in
    rw c.min.ensures (stretch_free c.requires.0 c.requires.1 _ c.limit-end.ensures (omega arith) c.in_default.ensures _ e.0 e.1)

pub returns-in-None : goal.returns-in-None
returns-in-None c = stretch_none c.requires.0 c.requires.1 _ c.limit-end.ensures (omega arith) c.in-None.ensures
