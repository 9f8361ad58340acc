use borrow.Author.Rules.{rules}
use Rattle.piece_list.proofs.list_moved.Goals as goal

pub list_pieces-requires : goal.list_pieces-requires
list_pieces-requires g c =
    record { guaranteed = (c.requires.0, c.requires.1, search rules); shipped_in_bounds = c.requires.2 }
