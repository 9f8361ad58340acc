use Rattle.items.specs.Items.{words_in}
use native.Mathlib.Omega.{arith}
use borrow.Author.Tests.{eq-eqb, ne_eqb}
use Rattle.inside_list.proofs.count_word.Goals as goal
use Rattle.items.specs.Kinds.{same_kind, other_kind}
use Rattle.items.specs.declared.Kind.TheVariants.{Word}

pub returns-then-eq : goal.returns-then-eq
unfolding words_in
returns-then-eq c = rw (eq-eqb _ 2 (same_kind _ Word c.eq.ensures c.if-eq.true)) (omega arith)

pub returns : goal.returns
unfolding words_in
returns c = rw (ne_eqb _ 2 (other_kind _ Word c.eq.ensures c.if-eq.false)) (omega arith)
