-- What is listed of a stretch of positions.
-- Assumes nothing.
use Rattle.std.specs.Prelude.{◌≡◌, refl, ℕ, ◌+◌, ◌-◌, ◌*◌, ◌≤◌, ◌<◌, length, get_or, set}
use Rattle.std.proofs.Common.{sym, ap, ◌∙◌, arith, add-one, length-set, length-append}
use mathlib.Core.List.{List, [], ◌∷◌, ◌++◌}
use Rattle.answers.specs.declared.Reading.{Reading}
use Rattle.audit_places.specs.Writing.{Writing}
use Rattle.audit_stretch.specs.Stretch.{SameBytes, Until}
use Rattle.piece_stretch.specs.Stretch.{after}
use Rattle.audit_pieces.specs.declared.Piece.{Piece}
use Rattle.audit_pieces.specs.Pieces.{by, Onward}
use Rattle.audit_pieces.specs.PiecesLaws.{plain_part, held_part}
use Rattle.audit_count.specs.Differences.{differences, entry, entries}
use Rattle.piece_count.specs.DifferenceLaws.{entries_both, length_entries, few}
use Rattle.piece_count.specs.Counting.{between}
use Rattle.piece_count.specs.CountingLaws.{between_join, between_clear, between_hit, between_same}

-- m is l with the differences from `from` up to `to` listed from the i-th place on, and j the place after them
pub record Lists {A : Type 0} (w : Writing A) (ref ys : List ℕ) (r : Reading) (from to : ℕ) (l : List A) (i : ℕ) (m : List A) (j : ℕ) : Type 0 where
  pub long : length m ≡ length l
  pub count : j ≡ i + length (between ref ys from to)
  pub listed : m ≡ w.all l i (entries r (between ref ys from to))

-- ---- one after the other

all_both : {A : Type 0} (w : Writing A) (l : List A) (i : ℕ) (us vs : List ℕ) → w.all l i (us ++ vs) ≡ w.all (w.all l i us) (i + length us) vs
all_both w l i [] vs = let e : i + 0 ≡ i = omega arith in rw (w.none l i, e)
all_both w l i (u ∷ us) vs =
    let e : i + length (u ∷ us) ≡ i + 1 + length us = omega arith in
    rw e (w.more l i u (us ++ vs) ∙ all_both w (w.one l i u) (i + 1) us vs ∙ ap (λ k. w.all k (i + 1 + length us) vs) (sym (w.more l i u us)))

module _ {A : Type 0} (w : Writing A) (ref ys : List ℕ) (r : Reading) where
  pub lists_join : (from k to : ℕ) (l m n : List A) (i j h : ℕ) → from ≤ k → k ≤ to → Lists w ref ys r from k l i m j
      → Lists w ref ys r k to m j n h → Lists w ref ys r from to l i n h
  lists_join from k to l m n i j h low high a b =
      let one = between ref ys from k in
      let two = between ref ys k to in
      let e = between_join ref ys from k to low high in
      record {
        long = b.long ∙ a.long;
        count = rw e (omega (arith, a.count, b.count, length-append one two));
        listed = rw (e, entries_both r one two)
            (b.listed ∙ rw (a.count, a.listed, ← length_entries r one) (sym (all_both w l i (entries r one) (entries r two))));
      }

  pub lists_clear : (from k : ℕ) (l : List A) (i : ℕ) → from ≤ k → SameBytes ref ys from k → Lists w ref ys r from k l i l i
  unfolding entries
  lists_clear from k l i h same =
      let e = between_clear ref ys from k h same in
      record { long = refl; count = rw e (omega arith); listed = rw e (sym (w.none l i)) }

  pub lists_hit : (k : ℕ) (l : List A) (i : ℕ) → (get_or ys k 0 ≡ get_or ref k 0 → ⊥)
      → Lists w ref ys r k (k + 1) l i (w.one l i (entry r k)) (i + 1)
  unfolding entries
  lists_hit k l i differs =
      let e = between_hit ref ys k differs in
      record {
        long = w.long l i (entry r k);
        count = rw e (omega arith);
        listed = rw e (sym (w.more l i (entry r k) [] ∙ w.none (w.one l i (entry r k)) (i + 1)));
      }

  -- at the end all are listed
  pub lists_all : (l m : List A) (j : ℕ) → Lists w ref ys r 0 (length ys) l 0 m j
      → m ≡ w.all l 0 (entries r (differences ref ys 0 (length ys)))
  lists_all l m j a = let e : length ys - 0 ≡ length ys = omega arith in rw e at a.listed

  -- there is a place for one more
  pub place_left : (from k to : ℕ) (l m : List A) (i j room : ℕ) → from ≤ k → k < to → (get_or ys k 0 ≡ get_or ref k 0 → ⊥)
      → Lists w ref ys r from k l i m j → i + length (between ref ys from to) ≤ room → j < room
  place_left from k to l m i j room low less differs a fits =
      let one = between ref ys from k in
      let two = between ref ys k to in
      let three = between ref ys (k + 1) to in
      let all : length (between ref ys from to) ≡ length one + length two = ap length (between_join ref ys from k to low (omega arith)) ∙ length-append one two in
      let here = between ref ys k (k + 1) in
      let some : length two ≡ length here + length three = ap length (between_join ref ys k (k + 1) to (omega arith) (omega arith)) ∙ length-append here three in
      let hit : length here ≡ 1 = ap length (between_hit ref ys k differs) in
      omega (arith, a.count, all, some, hit)

  -- no more are listed than positions are passed
  pub lists_few : (from k : ℕ) (l m : List A) (i j : ℕ) → from ≤ k → i ≤ from → Lists w ref ys r from k l i m j → j ≤ k
  lists_few from k l m i j h g a = omega (arith, a.count, few ref ys from (k - from))

  -- and for a stretch
  pub room_left : (k to end : ℕ) (l m : List A) (j room : ℕ) → k ≤ to → to ≤ end → Lists w ref ys r 0 k l 0 m j
      → length (between ref ys 0 end) ≤ room → j + length (between ref ys k to) ≤ room
  room_left k to end l m j room h g a fits =
      let one = between ref ys 0 k in
      let two = between ref ys k end in
      let part = between ref ys k to in
      let rest = between ref ys to end in
      let all : length (between ref ys 0 end) ≡ length one + length two = ap length (between_join ref ys 0 k end (omega arith) (omega arith)) ∙ length-append one two in
      let left : length two ≡ length part + length rest = ap length (between_join ref ys k to end h g) ∙ length-append part rest in
      omega (arith, a.count, all, left)

-- a reference that agrees there is listed the same
pub lists_same : {A : Type 0} (w : Writing A) (a b ys : List ℕ) (r : Reading) (from to : ℕ) (l : List A) (i : ℕ) (m : List A) (j : ℕ)
    → ((k : ℕ) → from ≤ k → k < to → get_or a k 0 ≡ get_or b k 0) → Lists w a ys r from to l i m j → Lists w b ys r from to l i m j
lists_same w a b ys r from to l i m j same x =
    let e = between_same a b ys from to same in
    record { long = x.long; count = rw e at x.count; listed = rw e at x.listed }

-- ---- the loop over a stretch: the differences before k are listed

module _ {A : Type 0} (w : Writing A) (ref ys : List ℕ) (r : Reading) (from to : ℕ) (l : List A) (i : ℕ) where
  pub record Listing (m : List A) (j k : ℕ) : Type 0 where
    pub low : from ≤ k
    pub high : k ≤ to
    pub lists : Lists w ref ys r from k l i m j

  pub listing_start : from ≤ to → Listing l i from
  listing_start h =
      record { low = omega arith; high = h; lists = lists_clear w ref ys r from from l i (omega arith) (λ k a b. absurd (omega arith)) }

  module _ (m : List A) (j k : ℕ) (is : Listing m j k) where
    -- up to the next difference
    module _ (at : ℕ) (less : at < to) (u : Until ref ys k to at) where
      pub listing_at : Lists w ref ys r from at l i m j
      listing_at =
          lists_join w ref ys r from k at l m m i j j is.low u.onward is.lists (lists_clear w ref ys r k at m j u.onward u.clear)

      pub listing_on : Listing (w.one m j (entry r at)) (j + 1) (at + 1)
      listing_on =
          record {
            low = omega (arith, is.low, u.onward);
            high = omega arith;
            lists = lists_join w ref ys r from at (at + 1) l m (w.one m j (entry r at)) i j (j + 1) (omega (arith, is.low, u.onward)) (omega arith)
                listing_at (lists_hit w ref ys r at m j (u.found less));
          }

      -- a place for it
      pub listing_room : (room : ℕ) → i + length (between ref ys from to) ≤ room → j < room
      listing_room room = place_left w ref ys r from at to l m i j room (omega (arith, is.low, u.onward)) less (u.found less) listing_at

      -- and no more places than positions
      pub listing_few : i ≤ from → j ≤ at
      listing_few h = lists_few w ref ys r from at l m i j (omega (arith, is.low, u.onward)) h listing_at

    pub listing_end : SameBytes ref ys k to → Lists w ref ys r from to l i m j
    listing_end same = lists_join w ref ys r from k to l m m i j j is.low is.high is.lists (lists_clear w ref ys r k to m j is.high same)

-- ---- the loop over the pieces

module _ {A : Type 0} (w : Writing A) {xs : List ℕ} {r : Reading} {four eight : ℕ} {p q : Piece} {ms : List ℕ} (on : Onward xs r four eight p q ms)
    (ys : List ℕ) (l m : List A) (i : ℕ) (before : Lists w (by xs r four eight) ys r 0 p.to l 0 m i) where
  -- room for what is left is room for each part of the next piece
  module _ (room : ℕ) (long : length ys ≡ length xs) (fits : length (differences (by xs r four eight) ys 0 (length ys)) ≤ room) where
    all_fit : length (between (by xs r four eight) ys 0 (length ys)) ≤ room
    all_fit = let e : length ys - 0 ≡ length ys = omega arith in rw e fits

    pub plain_fits : i + length (between (after 0 xs) ys p.to q.from) ≤ room
    plain_fits =
        rw (between_same (after 0 xs) (by xs r four eight) ys p.to q.from (plain_part on))
        (room_left w (by xs r four eight) ys r p.to q.from (length ys) l m i room on.low
        (omega (arith, on.high, on.stands.most, long)) before all_fit)

    pub held_fits : (n : List A) (j : ℕ) → Lists w (after 0 xs) ys r p.to q.from m i n j
        → j + length (between (after q.from ms) ys q.from q.to) ≤ room
    held_fits n j plain =
        rw (between_same (after q.from ms) (by xs r four eight) ys q.from q.to (held_part on))
        (room_left w (by xs r four eight) ys r q.from q.to (length ys) l n j room on.high
        (omega (arith, on.stands.most, long)) (plain_on n j plain) all_fit)
      where
        plain_on : (n : List A) (j : ℕ) → Lists w (after 0 xs) ys r p.to q.from m i n j → Lists w (by xs r four eight) ys r 0 q.from l 0 n j
        plain_on n j a =
            lists_join w (by xs r four eight) ys r 0 p.to q.from l m n 0 i j (omega arith) on.low before
            (lists_same w (after 0 xs) (by xs r four eight) ys r p.to q.from m i n j (plain_part on) a)

  pub pieces_on : (n o : List A) (j h : ℕ) → Lists w (after 0 xs) ys r p.to q.from m i n j
      → Lists w (after q.from ms) ys r q.from q.to n j o h → Lists w (by xs r four eight) ys r 0 q.to l 0 o h
  pieces_on n o j h a b =
      let ref = by xs r four eight in
      let one = lists_same w (after 0 xs) ref ys r p.to q.from m i n j (plain_part on) a in
      let two = lists_same w (after q.from ms) ref ys r q.from q.to n j o h (held_part on) b in
      lists_join w ref ys r 0 q.from q.to l n o 0 j h (omega arith) on.high
      (lists_join w ref ys r 0 p.to q.from l m n 0 i j (omega arith) on.low before one) two
