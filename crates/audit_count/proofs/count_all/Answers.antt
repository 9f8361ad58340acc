use Rattle.audit_count.specs.CountingLaws.{totals_counts}
use mathlib.Core.Path.{sym}
use borrow.Author.Rules.{rules}
use Rattle.audit_count.proofs.count_all.Goals as goal

pub walk_all-t-requires : goal.walk_all-t-requires
walk_all-t-requires c =
    (c.requires.0, c.requires.1, search rules, c.rank_words.ensures)

pub returns : goal.returns
returns c = sym (totals_counts _ _ _ _ c.walk_all-t.ensures)
