-- The bodies laid sheet by sheet are those of the folded sheet, and its runs' entries are its entries.
-- Assumes nothing.
use Prim.Native.Nat.{ℕ, zero, suc, ◌+◌, ◌-◌, ◌*◌, ◌≤◌, ◌<◌}
use Rattle.std.specs.Prelude.{Bool, true, false, List, [], ◌∷◌, ◌⊎◌, ◌≡◌, get_or, set, take, drop}
use Rattle.std.proofs.lemmas.Bool.{false≢true}
use Rattle.std.proofs.Common.{inl, inr, ap, ◌∙◌, get_or-take, get_or-drop}
use Rattle.std.proofs.Math.Path.{refl, sym}
use native.Mathlib.Omega.{arith}
use Rattle.std.proofs.Math.Decide.{dec_lt, ℕ_discrete}
use Rattle.std.proofs.Math.ListN.{length}
use Rattle.std.proofs.lemmas.List.{set-get_or}
use Rattle.sheet.specs.declared.Entry.{Entry}
use Rattle.sheet.specs.Sheet.{count, offset, size, position, entry_at}
use Rattle.sheet.specs.ByteAt.{byte_by, byte_at}
use Rattle.sheet.specs.ByteAtLaws.{by_covers, by_passes}
use Rattle.fold_pile.specs.Pile.{sheets}
use Rattle.fold_pile.specs.SheetsLaws.{Fitting, piled_fitting}
use Rattle.fold_cells.specs.SetAt.{over, set_from, set_at}
use Rattle.fold_cells.specs.Cells.{last, Good, Unset, Bounded}
use Rattle.fold_cells.specs.CellsLaws.{set_nil, set_cons}
use Rattle.fold_tally.specs.declared.Tally.{Tally}
use Rattle.fold_tally.specs.Tally.{stepped, tally_to}
use Rattle.fold_tally.specs.TallyLaws.{bytes_grow, runs_most, bytes_most}
use Rattle.fold_sheet.specs.Folded.{size_of}
use Rattle.fold_sheet.specs.Placing.{put_entry, placed, out_to, Room}
use Rattle.fold_sheet.specs.PlacingLaws.{length_put_entry, length_bodies, wrote_to}
use Rattle.fold_sheet.specs.WindowLaws.{gap_out}
use Rattle.fold_runs.specs.Runs.{Within}
use Rattle.fold_ranks.specs.Ranks.{starts, sizes, ends, sum_to, Whole}
use Rattle.fold_ranks.specs.RanksLaws.{before, still, unset_first, unset_after, bytes_in, at_end_lem, filled_run}
use Rattle.fold_bodies.specs.Bodies.{Copied, Rooms, place, Laid, Stands, LaidSheet, LaidPile, runs_to}

-- ---- bytes copied

pub copied_by : (os : List ℕ) (to : ℕ) (s : List ℕ) (from n : ℕ) (ps : List ℕ) (a b : ℕ) → length ps ≡ length os → take to ps ≡ take to os
    → a ≡ n → b ≡ n → take a (drop to ps) ≡ take b (drop from s) → drop (to + n) ps ≡ drop (to + n) os → Copied os to s from n ps
copied_by os to s from n ps a b long front x y mid back =
    record {
      long = long;
      inside = λ j h.
          sym (get_or-drop to ps j 0) ∙ sym (get_or-take a (drop to ps) j 0 (omega arith)) ∙ ap (λ (l : List ℕ). get_or l j 0) mid
          ∙ get_or-take b (drop from s) j 0 (omega arith) ∙ get_or-drop from s j 0;
      beside = λ j h. beside j h;
    }
  where
    beside : (j : ℕ) → (j < to) ⊎ (to + n ≤ j) → get_or ps j 0 ≡ get_or os j 0
    beside j (inl l) = sym (get_or-take to ps j 0 l) ∙ ap (λ (l : List ℕ). get_or l j 0) front ∙ get_or-take to os j 0 l
    beside j (inr l) =
        let i : ℕ = j - (to + n) in
        let e : to + n + i ≡ j = omega arith in
        rw e at (sym (get_or-drop (to + n) ps i 0) ∙ ap (λ (l : List ℕ). get_or l i 0) back ∙ get_or-drop (to + n) os i 0)

-- an entry

pub laid_none : (xs : List ℕ) (n : ℕ) (rs : List ℕ) (w : Entry) (s os : List ℕ) → Laid xs n rs w s n os os
laid_none xs n rs w s os =
    record { long = refl; rest = λ j h. refl; seat = λ h. absurd (omega arith); copied = λ h. absurd (omega arith) }

-- an entry's bytes end with its run
pub place_within : (xs : List ℕ) (n : ℕ) (rs : List ℕ) (room r a e : ℕ) → Rooms xs n rs room → Within xs n r a e → a ≤ e
    → place xs n r a + (e - a) ≤ 16 + 8 * n + sum_to xs n
place_within xs n rs room r a e m i h = omega (arith, m.within r i.there, i.from, i.to)

pub laid_copied : (xs : List ℕ) (n : ℕ) (rs : List ℕ) (room : ℕ) (w : Entry) (s : List ℕ) (r : ℕ) (os ps : List ℕ) (to : ℕ) → Rooms xs n rs room
    → Within xs n r w.offset (w.offset + w.size) → to ≡ place xs n r w.offset → Copied os to s w.position w.size ps
    → Laid xs n rs w s r os ps
laid_copied xs n rs room w s r os ps to m i e c =
    record {
      long = c.long;
      rest = λ j h. c.beside j (inr (omega (arith, place_within xs n rs room r w.offset (w.offset + w.size) m i (omega arith))));
      seat = λ h. i;
      copied = λ h. rw e at c;
    }

-- ---- the entries of a sheet

pub record Laying (xs : List ℕ) (n : ℕ) (rs s : List ℕ) (i : ℕ) (os ps : List ℕ) : Type 0 where
  pub long : length ps ≡ length os
  pub rest : (j : ℕ) → 16 + 8 * n + sum_to xs n ≤ j → get_or ps j 0 ≡ get_or os j 0
  pub stands : (f : ℕ → ℕ) (top : ℕ) → Whole f xs n top → (old : ℕ → ℕ) → Stands n f old os
      → Stands n f (λ (k : ℕ). over (byte_by s i k) (old k)) ps

pub laying_start : (xs : List ℕ) (n : ℕ) (rs s os : List ℕ) → Laying xs n rs s 0 os os
unfolding byte_by
laying_start xs n rs s os = record { long = refl; rest = λ j h. refl; stands = λ f top w old h. h }

-- a byte more before a later position
strict : (f : ℕ → ℕ) (k a : ℕ) → (f k ≡ 0 → ⊥) → k < a → (tally_to f k).bytes + 1 ≤ (tally_to f a).bytes
unfolding tally_to
strict f k a some h =
    let e : suc k + (a - suc k) ≡ a = omega arith in
    omega (arith, rw e at (bytes_grow f (suc k) (a - suc k)), one (f k) (tally_to f k) some)
  where
    one : (c : ℕ) (t : Tally) → (c ≡ 0 → ⊥) → t.bytes + 1 ≡ (stepped c t).bytes
    one zero t h = absurd (h refl)
    one (suc c) t h = refl

grows : (f : ℕ → ℕ) (a k : ℕ) → a ≤ k → (tally_to f a).bytes ≤ (tally_to f k).bytes
grows f a k h = let e : a + (k - a) ≡ k = omega arith in rw e at (bytes_grow f a (k - a))

module _ (xs : List ℕ) (n : ℕ) (rs : List ℕ) (w : Entry) (s : List ℕ) (r : ℕ) (os ps : List ℕ) (l : Laid xs n rs w s r os ps) (h : r < n)
    (f : ℕ → ℕ) (top : ℕ) (whole : Whole f xs n top) (k : ℕ) where
  abbrev index : ℕ
  index = 16 + 8 * n + (tally_to f k).bytes

  laid_in : w.offset ≤ k → k < w.offset + w.size → get_or ps index 0 ≡ get_or s (w.position + (k - w.offset)) 0
  laid_in a b =
      let i = l.seat h in
      let e : place xs n r w.offset + (k - w.offset) ≡ index =
      omega (arith, i.from, i.to, bytes_in f xs n top whole r k h (omega (arith, i.from)) (omega (arith, i.to))) in
      rw e at ((l.copied h).inside (k - w.offset) (omega arith))

  laid_out : (f k ≡ 0 → ⊥) → (w.offset ≤ k → k < w.offset + w.size → ⊥) → get_or ps index 0 ≡ get_or os index 0
  laid_out some out = (l.copied h).beside index side
    where
      side : (index < place xs n r w.offset) ⊎ (place xs n r w.offset + w.size ≤ index)
      side =
          let i = l.seat h in
          elim (dec_lt k w.offset) [
            | yes a ↦ inl (omega (
              arith,
              i.from,
              i.to,
              strict f k w.offset some a,
              bytes_in f xs n top whole r w.offset h i.from (omega (arith, i.to)),
            ))
            | no a ↦ elim (dec_lt k (w.offset + w.size)) [
              | yes b ↦ absurd (out (omega arith) b)
              | no b ↦ inr (omega (
                arith,
                i.from,
                i.to,
                grows f (w.offset + w.size) k (omega arith),
                bytes_in f xs n top whole r (w.offset + w.size) h (omega (arith, i.from)) i.to,
              ))
            ]
          ]

pub laying_next : (xs : List ℕ) (n : ℕ) (rs s : List ℕ) (i : ℕ) (os ps qs : List ℕ) (w : Entry) (r : ℕ) → w ≡ entry_at s i → r < n
    → Laying xs n rs s i os ps → Laid xs n rs w s r ps qs → Laying xs n rs s (i + 1) os qs
laying_next xs n rs s i os ps qs w r e h c l =
    let z : i + 1 ≡ suc i = omega arith in
    rw z
    (record {
      long = l.long ∙ c.long;
      rest = λ j g. l.rest j g ∙ c.rest j g;
      stands = λ f top whole old st k b some is.
          elim (dec_lt k (offset s i)) [
            | yes a ↦ beside f top whole old st k b some is (λ x y. omega arith)
            | no a ↦ elim (dec_lt k (offset s i + size s i)) [
              | no d ↦ beside f top whole old st k b some is (λ x y. d y)
              | yes d ↦ inside f top whole old k b is (omega arith) d
            ]
          ];
    })
  where
    l' : Laid xs n rs (entry_at s i) s r ps qs
    l' = rw e at l

    beside : (f : ℕ → ℕ) (top : ℕ) → Whole f xs n top → (old : ℕ → ℕ) → Stands n f old os → (k b : ℕ) → (f k ≡ 0 → ⊥)
        → over (byte_by s (suc i) k) (old k) ≡ suc b → (offset s i ≤ k → k < offset s i + size s i → ⊥)
        → get_or qs (16 + 8 * n + (tally_to f k).bytes) 0 ≡ b
    beside f top whole old st k b some is out =
        laid_out xs n rs (entry_at s i) s r ps qs l' h f top whole k some out
        ∙ c.stands f top whole old st k b some (rw (by_passes s i k (λ x. out x.0 x.1)) at is)

    same : (x b : ℕ) (y : ℕ) → over (suc x) y ≡ suc b → x ≡ b
    same x b y q = omega arith

    inside : (f : ℕ → ℕ) (top : ℕ) → Whole f xs n top → (old : ℕ → ℕ) → (k b : ℕ)
        → over (byte_by s (suc i) k) (old k) ≡ suc b → offset s i ≤ k → k < offset s i + size s i
        → get_or qs (16 + 8 * n + (tally_to f k).bytes) 0 ≡ b
    inside f top whole old k b is x y =
        laid_in xs n rs (entry_at s i) s r ps qs l' h f top whole k x y
        ∙ same (get_or s (position s i + (k - offset s i)) 0) b (old k) (rw (by_covers s i k x y) at is)

pub laying_end : (xs : List ℕ) (n : ℕ) (rs s : List ℕ) (os ps : List ℕ) (met : ℕ) → met < 1024 → Laying xs n rs s (count s) os ps
    → LaidSheet xs n rs (byte_at s) os met true ps
unfolding byte_at
laying_end xs n rs s os ps met h l = record { long = l.long; rest = l.rest; met = h; stands = λ t. l.stands }

pub laying_not : (xs : List ℕ) (n : ℕ) (rs s : List ℕ) (i : ℕ) (os ps qs : List ℕ) (w : Entry) (r met : ℕ) → met < 1024
    → Laying xs n rs s i os ps → Laid xs n rs w s r ps qs → LaidSheet xs n rs (byte_at s) os met false qs
laying_not xs n rs s i os ps qs w r met h c l =
    record { long = l.long ∙ c.long; rest = λ j g. l.rest j g ∙ c.rest j g; met = h; stands = λ t. absurd (false≢true t) }

-- ---- the sheets of a pile

-- what stood before the sheets ss, and these
pub record Piling (p xs : List ℕ) (n : ℕ) (rs : List ℕ) (ss : List (List ℕ)) (os ps : List ℕ) : Type 0 where
  pub old : ℕ → ℕ
  pub fit : Fitting ss
  pub same : (k : ℕ) → set_at (sheets p) k ≡ set_from (old k) ss k
  pub long : length ps ≡ length os
  pub rest : (j : ℕ) → 16 + 8 * n + sum_to xs n ≤ j → get_or ps j 0 ≡ get_or os j 0
  pub stands : (top : ℕ) → Whole (set_at (sheets p)) xs n top → Stands n (set_at (sheets p)) old ps

pub piling_start : (p xs : List ℕ) (n : ℕ) (rs os : List ℕ) → Good p → Piling p xs n rs (sheets p) os os
unfolding set_at
piling_start p xs n rs os good =
    record {
      old = λ k. 0;
      fit = piled_fitting p 0 (sheets p) good;
      same = λ k. refl;
      long = refl;
      rest = λ j h. refl;
      stands = λ top w k b some e. absurd (omega arith);
    }

pub piling_next : (p xs : List ℕ) (n : ℕ) (rs s : List ℕ) (ss : List (List ℕ)) (os ps qs : List ℕ) (met : ℕ) (found : Bool)
    → Piling p xs n rs (s ∷ ss) os ps → LaidSheet xs n rs (byte_at s) ps met found qs → found ≡ true → Piling p xs n rs ss os qs
piling_next p xs n rs s ss os ps qs met found c l t =
    record {
      old = λ k. over (byte_at s k) (c.old k);
      fit = c.fit.1;
      same = λ k. c.same k ∙ set_cons (c.old k) s ss k;
      long = l.long ∙ c.long;
      rest = λ j g. l.rest j g ∙ c.rest j g;
      stands = λ top w. l.stands t (set_at (sheets p)) top w c.old (c.stands top w);
    }

pub piling_end : (p xs : List ℕ) (n : ℕ) (rs os ps : List ℕ) → Piling p xs n rs [] os ps → LaidPile xs n rs (set_at (sheets p)) os true ps
piling_end p xs n rs os ps c =
    record {
      long = c.long;
      rest = c.rest;
      stands = λ t top w k b some e. c.stands top w k b some (sym (c.same k ∙ set_nil (c.old k) k) ∙ e);
    }

pub piling_not : (p xs : List ℕ) (n : ℕ) (rs : List ℕ) (ss : List (List ℕ)) (os ps qs : List ℕ) (s : ℕ → ℕ) (met : ℕ) (found : Bool)
    → Piling p xs n rs ss os ps → LaidSheet xs n rs s ps met found qs → LaidPile xs n rs (set_at (sheets p)) os false qs
piling_not p xs n rs ss os ps qs s met found c l =
    record { long = l.long ∙ c.long; rest = λ j g. l.rest j g ∙ c.rest j g; stands = λ t. absurd (false≢true t) }

-- ---- the entries

pub runs_none : (xs rs : List ℕ) (n : ℕ) (os : List ℕ) → runs_to xs rs n 0 os ≡ os
unfolding runs_to
runs_none xs rs n os = refl

pub runs_one : (xs rs : List ℕ) (n i : ℕ) (os : List ℕ)
    → runs_to xs rs n (i + 1) os ≡ put_entry (runs_to xs rs n i os) (16 + 8 * i) (starts xs i) (sizes xs i) (16 + 8 * n + get_or rs i 0)
unfolding runs_to
runs_one xs rs n i os = let z : i + 1 ≡ suc i = omega arith in rw z

pub length_runs : (xs rs : List ℕ) (n i : ℕ) (os : List ℕ) → length (runs_to xs rs n i os) ≡ length os
unfolding runs_to
length_runs xs rs n zero os = refl
length_runs xs rs n (suc i) os =
    length_put_entry (runs_to xs rs n i os) (16 + 8 * i) (starts xs i) (sizes xs i) (16 + 8 * n + get_or rs i 0) ∙ length_runs xs rs n i os

placed_run : (n e z i b : ℕ) (xs : List ℕ) → 1 ≤ z
    → placed n e (before z i b) 0 z xs ≡ put_entry xs (16 + 8 * i) (e - z) z (16 + 8 * n + (b - z))
placed_run n e zero i b xs h = absurd (omega arith)
placed_run n e (suc z) i b xs h = refl

module _ (f : ℕ → ℕ) (xs rs : List ℕ) (n : ℕ) (w : Whole f xs n last) (b : Bounded f) (ys : List ℕ) (rooms : Rooms xs n rs (length ys))
    (room : Room n f (length ys)) (st : Stands n f f ys) where
  out_still : (a : ℕ) → Unset f 0 a → out_to n f a ys ≡ ys
  unfolding out_to
  out_still zero u = refl
  out_still (suc a) u =
      let v : Unset f 0 a = record { up = omega arith; none = λ k g h. u.none k g (omega arith) } in
      rw (u.none a (omega arith) (omega arith), still f a v, out_still a v)

  -- a body that stands is not changed
  out_same : (k : ℕ) → (f k ≡ 0 → ⊥) → out_to n f (suc k) ys ≡ out_to n f k ys
  unfolding out_to size_of
  out_same k some = go (f k) refl
    where
      fits : 16 + 8 * n + (tally_to f k).bytes ≤ length ys
      fits = omega (arith, room.fits, room.count, bytes_most f b k)

      few : (tally_to f k).runs ≤ n
      few = omega (arith, room.count, runs_most f b k)

      kept : get_or (out_to n f k ys) (16 + 8 * n + (tally_to f k).bytes) 0 ≡ get_or ys (16 + 8 * n + (tally_to f k).bytes) 0
      kept = (wrote_to n f ys k few fits).rest (16 + 8 * n + (tally_to f k).bytes) (omega (arith, length_bodies f k))

      go : (c : ℕ) → f k ≡ c → placed n k (tally_to f k) c (tally_to f k).run (out_to n f k ys) ≡ out_to n f k ys
      go zero e = absurd (some e)
      go (suc x) e =
          let v : get_or (out_to n f k ys) (16 + 8 * n + (tally_to f k).bytes) 0 ≡ x = kept ∙ st k x some e in
          ap (λ (y : ℕ). set (out_to n f k ys) (16 + 8 * n + (tally_to f k).bytes) y) (sym v)
          ∙ set-get_or (out_to n f k ys) (16 + 8 * n + (tally_to f k).bytes) 0

  out_along : (i j : ℕ) → j ≤ sizes xs i → out_to n f (starts xs i + j) ys ≡ out_to n f (starts xs i) ys
  out_along i zero h = let z : starts xs i + 0 ≡ starts xs i = omega arith in rw z
  out_along i (suc j) h =
      let z : starts xs i + suc j ≡ suc (starts xs i + j) = omega arith in
      rw z (out_same (starts xs i + j) ((filled_run f xs n last w i).some (starts xs i + j) (omega arith) (omega arith))
      ∙ out_along i j (omega arith))

  -- from a run's start to the next one's
  runs_step : (i a : ℕ) → i < n → runs_to xs rs n i ys ≡ out_to n f (starts xs i) ys → ends xs i < a → Unset f (ends xs i) a
      → runs_to xs rs n (suc i) ys ≡ out_to n f a ys
  unfolding runs_to
  runs_step i a h is up u =
      gap_out n f ys (ends xs i) a (runs_to xs rs n (suc i) ys) u (λ l. wrote) (λ l. absurd (omega arith))
    where
      wrote : runs_to xs rs n (suc i) ys ≡ placed n (ends xs i) (tally_to f (ends xs i)) 0 (tally_to f (ends xs i)).run (out_to n f (ends xs i) ys)
      wrote =
          let t = at_end_lem f xs n last w i h in
          let e1 : ends xs i - sizes xs i ≡ starts xs i = omega arith in
          let e2 : sum_to xs i + sizes xs i - sizes xs i ≡ sum_to xs i = omega arith in
          rw (
            t,
            out_along i (sizes xs i) (omega arith),
            placed_run n (ends xs i) (sizes xs i) i (sum_to xs i + sizes xs i) (out_to n f (starts xs i) ys) (w.rising.some i h),
            e1,
            e2,
            is,
            rooms.each i h,
          )

  runs_to_lem : (i : ℕ) → i < n → runs_to xs rs n i ys ≡ out_to n f (starts xs i) ys
  unfolding runs_to
  runs_to_lem zero h = sym (out_still (starts xs 0) (unset_first f xs n last w (starts xs 0) (w.rising.low 0 h) up))
    where
      up : (j : ℕ) → j < n → starts xs 0 ≤ starts xs j
      up j l = elim (ℕ_discrete j 0) [ yes e ↦ rw e (omega arith) | no e ↦ omega (arith, w.rising.apart 0 j (omega arith) l) ]
  runs_to_lem (suc i) h =
      runs_step i (starts xs (suc i)) (omega arith) (runs_to_lem i (omega arith)) (w.rising.apart i (suc i) (omega arith) h)
      (unset_after f xs n last w i (starts xs (suc i)) (omega arith) (omega (arith, w.rising.apart i (suc i) (omega arith) h))
      (w.rising.low (suc i) h) up)
    where
      up : (j : ℕ) → i < j → j < n → starts xs (suc i) ≤ starts xs j
      up j g l = elim (ℕ_discrete j (suc i)) [ yes e ↦ rw e (omega arith) | no e ↦ omega (arith, w.rising.apart (suc i) j (omega arith) l) ]

  pub runs_out : ((i : ℕ) → i < n → ends xs i < last) → runs_to xs rs n n ys ≡ out_to n f last ys
  unfolding runs_to
  runs_out below = go n refl
    where
      go : (m : ℕ) → m ≡ n → runs_to xs rs n m ys ≡ out_to n f last ys
      go zero e = sym (out_still last (unset_first f xs n last w last (omega arith) (λ j l. absurd (omega arith))))
      go (suc i) e =
          let h : i < n = omega arith in
          runs_step i last h (runs_to_lem i h) (below i h)
          (unset_after f xs n last w i last h (omega (arith, below i h)) (omega arith) (λ j g l. absurd (omega arith)))
