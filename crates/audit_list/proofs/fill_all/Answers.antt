use borrow.Author.Rules.{rules}
use Rattle.audit_list.proofs.fill_all.Goals as goal

pub fill_walk-requires : goal.fill_walk-requires
fill_walk-requires g c =
    (c.requires.0, c.requires.1, c.requires.2, search rules, c.rank_words.ensures)
