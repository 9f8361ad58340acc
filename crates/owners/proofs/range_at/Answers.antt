use borrow.Author.Rules.{rules}
use Rattle.owners.proofs.range_at.Goals as goal

pub returns : goal.returns
returns c = record { value = cc; offset_bound = search rules }
