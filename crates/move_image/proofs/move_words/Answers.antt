use Rattle.std.proofs.Common.{◌∙◌}
use Rattle.move_image.specs.MovingLaws.{movable_fixed, moved_both}
use Rattle.move_image.proofs.move_words.Goals as goal

pub words-requires : goal.words-requires
words-requires c =
    let a = c.args in
    rw c.le64-v.ensures.is
    (movable_fixed a.image.now a.r c.requires a.d.four a.d.eight c.move_fixed.new.image c.move_fixed.ensures)

pub returns : goal.returns
returns c =
    let a = c.args in
    rw c.le64-v.ensures.is at c.words.ensures
    ∙ moved_both a.image.now a.r c.requires a.d.four a.d.eight c.move_fixed.new.image c.move_fixed.ensures
