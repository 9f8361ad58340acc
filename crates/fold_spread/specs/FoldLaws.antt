-- What was counted and written is the fold.
-- Assumes nothing.
use Rattle.std.specs.Prelude.{ℕ, ◌+◌, ◌*◌, List, ◌≡◌, length}
use Rattle.facts.specs.Fact.{Holds}
use Rattle.fold_pile.specs.Pile.{pile_number}
use Rattle.fold_tally.specs.declared.Tally.{Tally}
use Rattle.fold_sheet.specs.Folded.{size_of}
use Rattle.fold_room.specs.RoomBy.{room_by}
use Rattle.fold_room.specs.RoomLaws.{room_exact}
use Rattle.fold.specs.Fold.{pile_sets, refused_fold, Folds}
use Rattle.fold.specs.FoldLaws.{folds_full, folds_done, room_yes, room_no}
use Rattle.fold_ways.specs.Ways.{Way}

module _ (p o : List ℕ) (t : Tally) (q : List ℕ) (ok : pile_number p ≡ 0) (w : Way p o t q) where
  pub way_full : (Holds (room_by t (length o)) → ⊥) → Folds p o (refused_fold 29 0) q
  way_full out = rw (w.kept out) (folds_full p o ok (room_no (pile_sets p) t w.counted (length o) out))

  pub way_done : Holds (room_by t (length o))
      → Folds p o (record { number = 0; size = 16 + 8 * t.runs + t.bytes; entries = t.runs }) q
  unfolding size_of
  way_done h =
      let e = room_exact (pile_sets p) t w.counted (length o) h in
      rw (w.made h, e) (folds_done p o ok (room_yes (pile_sets p) t w.counted (length o) h))
