use Rattle.inside_rows.specs.Rows.{row_at}
use borrow.Author.Rules.{rules}
use Rattle.inside_rows.proofs.row_at.Goals as goal

pub returns : goal.returns
unfolding row_at
returns c = (cc, search rules, search rules, search rules)
