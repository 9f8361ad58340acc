use Rattle.std.specs.Prelude.{not}
use Rattle.std.proofs.Common.{ap}
use Rattle.facts.specs.FactLaws.{granted, refuted}
use Rattle.fold_room.specs.RoomLaws.{room_for}
use Rattle.fold.specs.Fold.{folded_sheet}
use Rattle.fold_ways.specs.Ways.{way_kept, way_made}
use Rattle.fold_ways.proofs.by_windows.Goals as goal

pub returns-then-not-has_room : goal.returns-then-not-has_room
returns-then-not-has_room c =
    way_kept c.args.pile.now.bytes.now c.args.out.now _ c.count-t.ensures.counted (refuted c.has_room.ensures (ap not c.if-not-has_room.true))

pub write_sheet-requires-clause-room : goal.write_sheet-requires-clause-room
write_sheet-requires-clause-room c = room_for _ _ c.count-t.ensures.counted _ (granted c.has_room.ensures (ap not c.if-not-has_room.false))

pub returns : goal.returns
unfolding folded_sheet
returns c =
    way_made c.args.pile.now.bytes.now c.args.out.now _ _ c.count-t.ensures.counted (granted c.has_room.ensures (ap not c.if-not-has_room.false)) c.write_sheet.ensures
