use native.Mathlib.Omega.{arith}
use Rattle.inside_runs.proofs.is_word.Goals as goal

pub returns-then-width-eq0 : goal.returns-then-width-eq0
returns-then-width-eq0 c =
    let w = c.width.ensures.0 in
    let e = c.le16.ensures.is in
    record { says = λ h. omega (arith, h.1, rw e at w, c.if-width-eq0.true) }

pub returns : goal.returns
returns c =
    let w = c.width.ensures.0 in
    let e = c.le16.ensures.is in
    record { says = (omega (arith, c.requires.1, c.if-i-k.false), omega (arith, rw e at w, c.if-width-eq0.false)) }
