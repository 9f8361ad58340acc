use Rattle.std.specs.Prelude.{not}
use Rattle.std.proofs.Common.{ap, ◌∙◌}
use borrow.Author.Tests.{not-false}
use Rattle.fold_cells.specs.Cells.{last}
use Rattle.fold.specs.Fold.{folded_sheet}
use Rattle.fold_ways.specs.RunLaws.{made_same}
use Rattle.fold_ways.proofs.make_by_runs.Goals as goal

pub lay_pile-requires : goal.lay_pile-requires
lay_pile-requires c = (c.requires.0.rooms, c.requires.1)

pub make_slowly-requires : goal.make_slowly-requires
make_slowly-requires c = rw c.lay_pile.ensures.long c.requires.0.fits

pub returns-then-not-lay_pile : goal.returns-then-not-lay_pile
unfolding folded_sheet
returns-then-not-lay_pile c =
    c.make_slowly.ensures ∙ made_same _ _ _ _ _ _ _ _ c.requires.0 c.lay_pile.ensures

pub finish-requires : goal.finish-requires
finish-requires c =
    record { made = rw c.lay_pile.ensures.long c.requires.0; stands = c.lay_pile.ensures.stands (not-false c.lay_pile.result (ap not c.if-not-lay_pile.false)) last c.requires.0.whole }

pub returns : goal.returns
unfolding folded_sheet
returns c =
    c.finish.ensures ∙ made_same _ _ _ _ _ _ _ _ c.requires.0 c.lay_pile.ensures
