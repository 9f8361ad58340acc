use Rattle.std.specs.Prelude.{not}
use Rattle.std.proofs.Common.{ap}
use Rattle.header.specs.Header.{extended_number}
use Rattle.facts.specs.FactLaws.{yes, no, granted}
use native.Mathlib.Omega.{arith}
use Rattle.header.proofs.extended_number.Goals as goal

pub returns-then-not-has_extended : goal.returns-then-not-has_extended
unfolding extended_number
returns-then-not-has_extended c = rw (← c.byte.ensures.is, no c.has_extended.ensures (ap not c.if-not-has_extended.true))

pub le16-requires : goal.le16-requires
le16-requires c =
    let six = granted c.has_extended.ensures (ap not c.if-not-has_extended.false) in
    omega (arith, c.requires.1 (omega (arith, c.byte.ensures.is)))

pub returns : goal.returns
unfolding extended_number
returns c =
    rw (← c.byte.ensures.is, yes c.has_extended.ensures (ap not c.if-not-has_extended.false)) c.le16.ensures.is
