-- What follows from 29 for the count of all.
-- Assumes nothing.
use Rattle.std.specs.Prelude.{ℕ, ◌≡◌}
use Rattle.std.proofs.Math.Path.{ap}
use Rattle.std.proofs.Common.{arith}
use Rattle.facts.specs.Fact.{Holds}
use Rattle.fold_tally.specs.declared.Tally.{Tally}
use Rattle.fold_tally.specs.Tally.{tally_of, Counted}
use Rattle.fold_sheet.specs.Folded.{size_of}
use Rattle.fold_sheet.specs.Placing.{Room}
use Rattle.fold_room.specs.RoomBy.{room_by}

module _ (f : ℕ → ℕ) (t : Tally) (c : Counted f t) (room : ℕ) where
  pub room_exact : Holds (room_by t room) → t ≡ tally_of f
  room_exact h = c.exact h.0 (omega (arith, h.1.0))

  pub room_for : Holds (room_by t room) → Room t.runs f room
  unfolding size_of
  room_for h =
      let e = room_exact h in
      record {
        count = ap (λ (u : Tally). u.runs) e;
        few = h.0;
        short = rw e at h.1.0;
        fits = rw e at h.1.1;
      }
