use borrow.Author.Tests.{eq-eqb, ne_eqb}
use Rattle.inside_walk.specs.Entries.{count_of}
use Rattle.inside_walk.proofs.entries.Goals as goal

pub returns-then-c-eq0 : goal.returns-then-c-eq0
unfolding count_of
returns-then-c-eq0 c = rw (eq-eqb _ 0 c.if-c-eq0.true)

pub returns : goal.returns
unfolding count_of
returns c = rw (ne_eqb _ 0 c.if-c-eq0.false)
