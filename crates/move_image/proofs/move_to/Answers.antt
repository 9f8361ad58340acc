use Rattle.moves.specs.Moves.{difference}
use Rattle.reading_rules.specs.Words.{words_of}
use Rattle.reading_rules.specs.WordsLaws.{widths}
use Rattle.move_modules.specs.Widths.{moved_by_width}
use Rattle.move_image.specs.Moving.{move_to}
use Rattle.std.proofs.Common.{◌∙◌}
use Rattle.move_image.proofs.move_to.Goals as goal

pub returns : goal.returns
unfolding move_to
returns c =
    let a = c.args in
    let xs = a.image.now in
    let r = a.r in
    rw (c.shift_between-d.ensures.0, c.shift_between-d.ensures.1) at c.move_words.ensures
    ∙ moved_by_width xs (words_of xs r) (difference r.base a.base) (widths xs r c.requires.0)
