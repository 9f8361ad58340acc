use Rattle.std.specs.Prelude.{not}
use Rattle.std.proofs.Common.{sym, ap, ◌∙◌}
use Rattle.facts.specs.FactLaws.{granted, refuted}
use Rattle.fold_pile.specs.Refused.{number_some}
use Rattle.fold.specs.FoldLaws.{folds_bad}
use Rattle.fold_spread.specs.FoldLaws.{way_full, way_done}
use Rattle.fold_spread.proofs.fold.Goals as goal

pub returns-in-Err : goal.returns-in-Err
returns-in-Err c =
    let e = c.number.ensures in
    rw c.refused.ensures
    (folds_bad c.args.pile.now c.args.out.now c.number.result (e ∙ c.in-Err.ensures) (λ z. number_some c.in-Err.refusal (sym e ∙ z)))

pub returns-then-not-has_room : goal.returns-then-not-has_room
returns-then-not-has_room c =
    let w = rw c.in-Ok.ensures.0 at c.fold_counted-t.ensures in
    rw c.refused-then-not-has_room.ensures
    (way_full c.args.pile.now c.args.out.now c.fold_counted-t.result _ c.in-Ok.ensures.1 w (refuted c.has_room.ensures (ap not c.if-not-has_room.true)))

pub counted-requires : goal.counted-requires
counted-requires c = let h = granted c.has_room.ensures (ap not c.if-not-has_room.false) in (h.0, h.1.0)

pub returns : goal.returns
returns c =
    let w = rw c.in-Ok.ensures.0 at c.fold_counted-t.ensures in
    rw c.counted.ensures
    (way_done c.args.pile.now c.args.out.now c.fold_counted-t.result _ c.in-Ok.ensures.1 w (granted c.has_room.ensures (ap not c.if-not-has_room.false)))
