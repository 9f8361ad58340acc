use Rattle.inside_blocks.specs.Blocks.{head_item}
use native.Mathlib.Omega.{arith}
use borrow.Author.Tests.{eq-eqb, ne_eqb}
use Rattle.inside_blocks.proofs.head_item.Goals as goal

pub returns-then-k-eq3 : goal.returns-then-k-eq3
unfolding head_item
returns-then-k-eq3 c = (rw (eq-eqb _ 3 c.if-k-eq3.true), omega arith, omega arith)

pub returns-then-k-eq2 : goal.returns-then-k-eq2
unfolding head_item
returns-then-k-eq2 c = (rw (ne_eqb _ 3 c.if-k-eq3.false, eq-eqb _ 2 c.if-k-eq2.true), omega arith, omega arith)

pub returns-then-k-eq1 : goal.returns-then-k-eq1
unfolding head_item
returns-then-k-eq1 c = (
  rw (
    ne_eqb _ 3 c.if-k-eq3.false,
    ne_eqb _ 2 c.if-k-eq2.false,
    eq-eqb _ 1 c.if-k-eq1.true,
  ),
  omega arith,
  omega arith,
)

pub returns : goal.returns
unfolding head_item
returns c = (
  rw (
    ne_eqb _ 3 c.if-k-eq3.false,
    ne_eqb _ 2 c.if-k-eq2.false,
    ne_eqb _ 1 c.if-k-eq1.false,
  ),
  omega arith,
  omega arith,
)
