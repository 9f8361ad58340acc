use Rattle.inside_blocks.specs.Blocks.{item_of}
use native.Mathlib.Omega.{arith}
use borrow.Author.Tests.{eq-eqb, ne_eqb}
use Rattle.inside_blocks.proofs.item_of.Goals as goal

pub returns-then-kind-eq0 : goal.returns-then-kind-eq0
unfolding item_of
returns-then-kind-eq0 c = (rw (eq-eqb _ _ c.if-kind-eq0.true), omega arith, omega arith)

pub returns-then-kind-eq3 : goal.returns-then-kind-eq3
unfolding item_of
returns-then-kind-eq3 c =
    let e = c.word_of.ensures in
    (rw (ne_eqb _ _ c.if-kind-eq0.false, eq-eqb _ _ c.if-kind-eq3.true, ← c.find.ensures.0) e.0, e.1, e.2)

pub returns-then-kind-eq10 : goal.returns-then-kind-eq10
unfolding item_of
returns-then-kind-eq10 c =
    let e = c.word_of-then-kind-eq10.ensures in (
      rw (
        ne_eqb _ _ c.if-kind-eq0.false,
        ne_eqb _ _ c.if-kind-eq3.false,
        eq-eqb _ _ c.if-kind-eq10.true,
        ← c.find-then-kind-eq10.ensures.0,
      ) e.0,
      e.1,
      e.2,
    )

pub returns : goal.returns
unfolding item_of
returns c =
    (rw (ne_eqb _ _ c.if-kind-eq0.false, ne_eqb _ _ c.if-kind-eq3.false, ne_eqb _ _ c.if-kind-eq10.false), omega arith, omega arith)
