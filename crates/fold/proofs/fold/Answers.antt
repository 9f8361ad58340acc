use Rattle.std.specs.Prelude.{not}
use Rattle.std.proofs.Common.{sym, ap, ◌∙◌}
use Rattle.facts.specs.FactLaws.{granted, refuted}
use Rattle.fold_pile.specs.Refused.{number_some}
use Rattle.fold_sheet.specs.Folded.{size_of}
use Rattle.fold_room.specs.RoomLaws.{room_exact, room_for}
use Rattle.fold.specs.Fold.{folded_sheet}
use Rattle.fold.specs.FoldLaws.{folds_bad, folds_full, folds_done, room_yes, room_no}
use Rattle.fold.proofs.fold.Goals as goal

pub returns-in-Err : goal.returns-in-Err
returns-in-Err c =
    let e = c.number.ensures in
    rw c.refused.ensures
    (folds_bad c.args.pile.now c.args.out.now c.number.result (e ∙ c.in-Err.ensures) (λ z. number_some c.in-Err.refusal (sym e ∙ z)))

pub returns-then-not-has_room : goal.returns-then-not-has_room
returns-then-not-has_room c =
    let counted = rw c.in-Ok.ensures.0 at c.count-t.ensures.counted in
    rw c.refused-then-not-has_room.ensures
    (folds_full c.args.pile.now c.args.out.now c.in-Ok.ensures.1 (room_no _ _ counted _ (refuted c.has_room.ensures (ap not c.if-not-has_room.true))))

pub write_sheet-requires-clause-room : goal.write_sheet-requires-clause-room
write_sheet-requires-clause-room c = room_for _ _ c.count-t.ensures.counted _ (granted c.has_room.ensures (ap not c.if-not-has_room.false))

pub counted-requires : goal.counted-requires
counted-requires c = let h = granted c.has_room.ensures (ap not c.if-not-has_room.false) in (h.0, h.1.0)

pub returns : goal.returns
unfolding size_of folded_sheet
returns c =
    let p = c.args.pile.now in
    let h = granted c.has_room.ensures (ap not c.if-not-has_room.false) in
    let counted = rw c.in-Ok.ensures.0 at c.count-t.ensures.counted in
    let e = room_exact _ _ counted _ h in
    rw (c.counted.ensures, c.write_sheet.ensures, c.in-Ok.ensures.0, e)
    (folds_done p c.args.out.now c.in-Ok.ensures.1 (room_yes _ _ counted _ h))
