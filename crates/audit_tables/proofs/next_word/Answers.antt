use native.Mathlib.Omega.{arith}
use Rattle.audit_tables.specs.Ahead.{Rest}
use Rattle.audit_tables.specs.AheadLaws.{known_at, rest_more, known_end}
use Rattle.audit_tables.proofs.next_word.Goals as goal

pub loop-i-init : goal.loop-i-init
loop-i-init c = c.requires.2

pub place_in-p-requires : goal.place_in-p-requires
place_in-p-requires c = omega (arith, c.requires.1.long)

pub returns-then-at-p : goal.returns-then-at-p
returns-then-at-p c =
    let a = c.args in
    let L = c.loop-i in
    let p = c.place_in-p in record {
      known = known_at a.image.now a.r a.ranks.now c.requires.0 c.requires.1 a.at L.i L.invariant (omega arith) p.result
          p.ensures.0;
      at_bound = λ h. omega arith;
    }

pub loop-i-preserved : goal.loop-i-preserved
loop-i-preserved c =
    let a = c.args in
    let L = c.loop-i in
    rest_more a.image.now a.r a.ranks.now c.requires.0 c.requires.1 a.at L.i L.invariant (omega arith)

pub returns : goal.returns
returns c =
    let a = c.args in
    let L = c.loop-i in
    -- none is listed there
    let none : Rest a.image.now a.r a.ranks.now a.at a.r.n = λ j h l. let (m, e, f, s) = L.invariant j h l in absurd (omega arith) in
    record {
      known = known_end a.image.now a.r a.ranks.now c.requires.0 c.requires.1 a.at a.r.n none (omega arith);
      at_bound = λ h. absurd (omega arith);
    }
