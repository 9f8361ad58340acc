use Rattle.apart_marks.specs.MarksLaws.{added_word, added_kept}
use Rattle.apart_marks.proofs.mark_item.Goals as goal
use Rattle.items.specs.Kinds.{same_kind, other_kind}
use Rattle.items.specs.declared.Kind.TheVariants.{Word}

pub returns-then-eq : goal.returns-then-eq
returns-then-eq c =
    added_word _ _ _ c.args.x _ (same_kind _ Word c.eq.ensures c.if-eq.true) c.mark_word.ensures

pub returns : goal.returns
returns c =
    added_kept _ _ _ c.args.x _ (other_kind _ Word c.eq.ensures c.if-eq.false) c.paint_in.ensures
