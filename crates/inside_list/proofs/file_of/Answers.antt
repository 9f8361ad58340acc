use Rattle.inside_list.specs.Inventory.{file_of}
use borrow.Author.Tests.{eq-eqb, ne_eqb}
use Rattle.inside_list.proofs.file_of.Goals as goal
use Rattle.inside_files.specs.PartKinds.{same_part, other_part}
use Rattle.inside_files.specs.declared.PartKind.TheVariants.{Header}

pub returns-then-eq : goal.returns-then-eq
unfolding file_of
returns-then-eq c = rw (eq-eqb _ 1 (same_part _ Header c.eq.ensures c.if-eq.true))

pub returns : goal.returns
unfolding file_of
returns c = rw (ne_eqb _ 1 (other_part _ Header c.eq.ensures c.if-eq.false))
