-- A fold by runs.
-- Assumes nothing.
use Rattle.std.specs.Prelude.{ℕ, ◌+◌, ◌-◌, ◌*◌, ◌≤◌, ◌<◌, Bool, List, ◌++◌, ◌≡◌, length, get_or, drop}
use Rattle.std.proofs.Math.Path.{refl, sym}
use Rattle.std.proofs.Common.{ap, ◌∙◌, arith, length-drop, get_or-drop, ext_get_or}
use Rattle.facts.specs.Fact.{Holds}
use Rattle.answers.specs.declared.Identity.{Identity}
use Rattle.fold_cells.specs.Cells.{last, Bounded}
use Rattle.fold_tally.specs.declared.Tally.{Tally}
use Rattle.fold_tally.specs.Tally.{tally_to, tally_of, Counted}
use Rattle.fold_tally.specs.TallyLaws.{runs_most}
use Rattle.fold_sheet.specs.Folded.{sheet_of, size_of, onto}
use Rattle.fold_sheet.specs.Placing.{put_header, Room}
use Rattle.fold_sheet.specs.PlacingLaws.{length_put_header, put_header_above, length_sheet, written_sheet}
use Rattle.fold_words.specs.Words.{Sound}
use Rattle.fold_runs.specs.Runs.{Out}
use Rattle.fold_ranks.specs.Ranks.{starts, Rising, sum_to, Summed, Whole}
use Rattle.fold_ranks.specs.RanksLaws.{before, ranked, ranked_all, sum_within}
use Rattle.fold_bodies.specs.Bodies.{Rooms, Stands, LaidPile, runs_to}
use Rattle.fold_bodies.specs.BodiesLaws.{runs_out}
use Rattle.fold_room.specs.RoomBy.{room_by}
use Rattle.fold_room.specs.RoomLaws.{room_for}

-- the runs are all that is set, and there is room for their sheet
pub record Made (f : ℕ → ℕ) (xs : List ℕ) (n : ℕ) (rs : List ℕ) (room : ℕ) : Type 0 where
  pub whole : Whole f xs n last
  pub rooms : Rooms xs n rs room
  pub fits : Room n f room

-- the first n words are what is set below `top`, in whatever order
pub record Known (f : ℕ → ℕ) (xs : List ℕ) (n top : ℕ) : Type 0 where
  pub sound : Sound f xs
  pub none : (k : ℕ) → Out xs n top k → f k ≡ 0

pub known_whole : {f : ℕ → ℕ} {xs : List ℕ} {n top : ℕ} → Known f xs n top → Rising xs n top → Whole f xs n top
known_whole k r = record { sound = k.sound; none = k.none; rising = r }

module _ (f : ℕ → ℕ) (xs : List ℕ) (n : ℕ) (w : Whole f xs n last) where
  pub whole_tally : (t : Tally) → t ≡ before 0 n (sum_to xs n) → t ≡ tally_of f
  unfolding tally_of
  whole_tally t e = e ∙ sym (ranked_all f xs n last w w.rising.high)

  pub whole_counted : (t : Tally) → t ≡ before 0 n (sum_to xs n) → Counted f t
  whole_counted t e =
      let s = whole_tally t e in
      record { runs = rw s (omega arith); bytes = rw s (omega arith); exact = λ g l. s }

  pub whole_made : (rs : List ℕ) (room bytes : ℕ) → bytes ≡ sum_to xs n → n ≤ length xs → n ≤ length rs → Summed xs n rs
      → Holds (room_by (before 0 n bytes) room) → Made f xs n rs room
  whole_made rs room bytes e lx lr s h =
      let e' : before 0 n bytes ≡ before 0 n (sum_to xs n) = ap (before 0 n) e in
      record {
        whole = w;
        rooms = record {
          few = h.0;
          words = lx;
          ranks = lr;
          total = omega (arith, h.1.1);
          each = s.each;
          within = λ i l. sum_within xs n i l;
        };
        fits = room_for f (before 0 n bytes) (whole_counted (before 0 n bytes) e') room h;
      }

-- more than 257 runs below `top` are more than 256
pub many : (f : ℕ → ℕ) (xs : List ℕ) (n top : ℕ) → Whole f xs n top → Bounded f → 257 < n → 257 ≤ (tally_of f).runs
many f xs n top w b h =
    let i : ℕ = n - 1 in
    omega (arith, runs_most f b (starts xs (n - 1)), ap (λ (t : Tally). t.runs) (ranked f xs n top w (n - 1) (omega arith)))

-- which is enough of a count
pub many_counted : (f : ℕ → ℕ) → 257 ≤ (tally_of f).runs → Counted f (before 0 257 0)
many_counted f h = record { runs = h; bytes = omega arith; exact = λ g l. absurd (omega (arith, g)) }

pub many_out : (room : ℕ) → Holds (room_by (before 0 257 0) room) → ⊥
many_out room h = omega (arith, h.0)

-- a sheet over two buffers that differ just where it stands
pub onto_same : (s os ps : List ℕ) → length ps ≡ length os → ((j : ℕ) → length s ≤ j → get_or ps j 0 ≡ get_or os j 0) → onto s ps ≡ onto s os
onto_same s os ps long rest =
    ap (λ (l : List ℕ). s ++ l)
    (ext_get_or 0 (drop (length s) ps) (drop (length s) os) (omega (arith, length-drop (length s) ps, length-drop (length s) os))
    (λ j h. get_or-drop (length s) ps j 0 ∙ rest (length s + j) (omega arith) ∙ sym (get_or-drop (length s) os j 0)))

module _ (f : ℕ → ℕ) (xs : List ℕ) (n : ℕ) (rs : List ℕ) (i : Identity) where
  -- the sheet's bytes end with the bodies
  made_size : (room : ℕ) → Made f xs n rs room → length (sheet_of i f) ≡ 16 + 8 * n + sum_to xs n
  unfolding size_of
  made_size room m =
      let e = whole_tally f xs n m.whole (before 0 n (sum_to xs n)) refl in
      length_sheet i f ∙ rw (← e)

  pub made_same : (os ps : List ℕ) (found : Bool) → Made f xs n rs (length os) → LaidPile xs n rs f os found ps
      → onto (sheet_of i f) ps ≡ onto (sheet_of i f) os
  made_same os ps found m l =
      onto_same (sheet_of i f) os ps l.long (λ j h. l.rest j (omega (arith, made_size (length os) m)))

  pub made_finish : (os : List ℕ) → Bounded f → Made f xs n rs (length os) → Stands n f f os
      → runs_to xs rs n n (put_header os i n) ≡ onto (sheet_of i f) os
  made_finish os b m st =
      let e : length (put_header os i n) ≡ length os = length_put_header os i n in
      runs_out f xs rs n m.whole b (put_header os i n) (rw e m.rooms) (rw e m.fits)
      (λ k x some is. put_header_above os i n (16 + 8 * n + (tally_to f k).bytes) (omega arith) ∙ st k x some is) m.whole.rising.high
      ∙ written_sheet i n f os m.fits
