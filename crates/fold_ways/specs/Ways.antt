-- Document 02, #114: a pile p counted, and its folded sheet written where there is room for it.
-- Assumes nothing.
use Rattle.std.specs.Prelude.{ℕ, List, ◌≡◌, refl, length}
use Rattle.facts.specs.Fact.{Holds}
use Rattle.fold_tally.specs.declared.Tally.{Tally}
use Rattle.fold_tally.specs.Tally.{Counted}
use Rattle.fold_sheet.specs.Folded.{onto}
use Rattle.fold_room.specs.RoomBy.{room_by}
use Rattle.fold.specs.Fold.{pile_sets, folded_sheet}

-- t is the count, or enough of it for 29; the buffer o has the sheet where there is room, and is as it was where there is none
pub record Way (p o : List ℕ) (t : Tally) (q : List ℕ) : Type 0 where
  pub counted : Counted (pile_sets p) t
  pub made : Holds (room_by t (length o)) → q ≡ onto (folded_sheet p) o
  pub kept : (Holds (room_by t (length o)) → ⊥) → q ≡ o

pub way_kept : (p o : List ℕ) (t : Tally) → Counted (pile_sets p) t → (Holds (room_by t (length o)) → ⊥) → Way p o t o
way_kept p o t c out = record { counted = c; made = λ h. absurd (out h); kept = λ h. refl }

pub way_made : (p o : List ℕ) (t : Tally) (q : List ℕ) → Counted (pile_sets p) t → Holds (room_by t (length o)) → q ≡ onto (folded_sheet p) o
    → Way p o t q
way_made p o t q c h e = record { counted = c; made = λ g. e; kept = λ out. absurd (out h) }
