use borrow.Author.Rules.{rules}
use Rattle.sheet.proofs.entry_at.Goals as goal

pub returns : goal.returns
returns c = record { value = cc; offset_bound = search rules }
