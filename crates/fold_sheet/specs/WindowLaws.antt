-- What is written window by window is what is written position by position, and there is room for it.
-- Assumes nothing.
use Prim.Native.Nat.{ℕ, zero, suc, ◌+◌, ◌-◌, ◌*◌, ◌≤◌, ◌<◌}
use Rattle.std.specs.Prelude.{List, ◌≡◌, length, get_or}
use Rattle.std.proofs.Math.Path.{refl, ap}
use Rattle.std.proofs.Common.{sym, ◌∙◌, add-one, length-set}
use native.Mathlib.Omega.{arith}
use Rattle.std.proofs.Math.Decide.{dec_lt, ℕ_discrete}
use Rattle.fold_cells.specs.Cells.{last, Unset, Shows, Bounded}
use Rattle.fold_tally.specs.declared.Tally.{Tally}
use Rattle.fold_tally.specs.Tally.{ended, stepped, tally_to, tally_of, through, Blank, Skipped}
use Rattle.fold_tally.specs.TallyLaws.{through_on, through_tally, tally_small, run_bytes, runs_most, bytes_most, quiet}
use Rattle.fold_sheet.specs.Folded.{size_of}
use Rattle.fold_sheet.specs.Placing.{placed, out_to, placed_cells, Safe, Room}
use Rattle.fold_sheet.specs.PlacingLaws.{length_put_entry}

-- ---- one step, as the code takes it

pub placed_some : (m k : ℕ) (t : Tally) (c r : ℕ) (xs ys : List ℕ) → (c ≡ 0 → ⊥) → ((b : ℕ) → c ≡ suc b → ys ≡ placed m k t (suc b) r xs)
    → ys ≡ placed m k t c r xs
placed_some m k t zero r xs ys h f = absurd (h refl)
placed_some m k t (suc b) r xs ys h f = f b refl

pub placed_idle : (m k : ℕ) (t : Tally) (c r : ℕ) (xs : List ℕ) → c ≡ 0 → r ≡ 0 → xs ≡ placed m k t c r xs
placed_idle m k t c r xs e h = rw (e, h)

pub placed_ends : (m k : ℕ) (t : Tally) (c r : ℕ) (xs ys : List ℕ) → c ≡ 0 → (r ≡ 0 → ⊥) → ((n : ℕ) → ys ≡ placed m k t 0 (suc n) xs)
    → ys ≡ placed m k t c r xs
placed_ends m k t c zero xs ys e h f = absurd (h refl)
placed_ends m k t c (suc n) xs ys e h f = rw e (f n)

pub length_placed : (m k : ℕ) (t : Tally) (c r : ℕ) (xs : List ℕ) → length (placed m k t c r xs) ≡ length xs
length_placed m k t zero zero xs = refl
length_placed m k t zero (suc r) xs = length_put_entry xs (16 + 8 * t.runs) (k - t.run) t.run (16 + 8 * m + (t.bytes - t.run))
length_placed m k t (suc b) r xs = length-set xs (16 + 8 * m + t.bytes) b

-- ---- through cells

pub cells_none : (m base : ℕ) (ys : List ℕ) (t : Tally) (xs : List ℕ) → placed_cells m base ys 0 t xs ≡ xs
unfolding placed_cells
cells_none m base ys t xs = refl

pub cells_one : (m base : ℕ) (ys : List ℕ) (i : ℕ) (t : Tally) (xs : List ℕ)
    → placed_cells m base ys (i + 1) t xs
    ≡ placed m (base + i) (through ys i t) (get_or ys i 0) (through ys i t).run (placed_cells m base ys i t xs)
unfolding placed_cells
cells_one m base ys i t xs = rw add-one

-- cells in which nothing is set write nothing where no run is open
cells_on : (m base : ℕ) (ys : List ℕ) (t : Tally) (xs : List ℕ) (i n : ℕ) → (through ys i t).run ≡ 0 → Blank ys i (i + n)
    → placed_cells m base ys (i + n) t xs ≡ placed_cells m base ys i t xs
unfolding placed_cells
cells_on m base ys t xs i zero none b = let e : i + 0 ≡ i = omega arith in rw e
cells_on m base ys t xs i (suc n) none b =
    let e : i + suc n ≡ suc (i + n) = omega arith in
    let less : Blank ys i (i + n) = λ j g l. b j g (omega arith) in
    rw (e, b (i + n) (omega arith) (omega arith), through_on ys t i n none less, none, cells_on m base ys t xs i n none less)

pub cells_past : (m base : ℕ) (ys : List ℕ) (t u : Tally) (xs zs : List ℕ) (i r : ℕ) → u ≡ through ys i t → Skipped ys i r
    → ((u.run ≡ 0 → ⊥) → r ≡ i) → zs ≡ placed_cells m base ys i t xs → zs ≡ placed_cells m base ys r t xs
cells_past m base ys t u xs zs i r e s stay is =
    elim (ℕ_discrete u.run 0) [
      | yes z ↦
          let n : ℕ = r - i in
          let d : i + n ≡ r = omega (arith, s.on) in
          is ∙ sym (rw d at (cells_on m base ys t xs i n (rw e at z) (rw d s.blank)))
      | no z ↦ rw (stay z) is
    ]

pub length_cells : (m base : ℕ) (ys : List ℕ) (i : ℕ) (t : Tally) (xs : List ℕ) → length (placed_cells m base ys i t xs) ≡ length xs
unfolding placed_cells
length_cells m base ys zero t xs = refl
length_cells m base ys (suc i) t xs =
    length_placed m (base + i) (through ys i t) (get_or ys i 0) (through ys i t).run (placed_cells m base ys i t xs)
    ∙ length_cells m base ys i t xs

module _ (m : ℕ) (f : ℕ → ℕ) (xs : List ℕ) where
  pub length_out : (k : ℕ) → length (out_to m f k xs) ≡ length xs
  unfolding out_to
  length_out zero = refl
  length_out (suc k) = length_placed m k (tally_to f k) (f k) (tally_to f k).run (out_to m f k xs) ∙ length_out k

  pub cells_out : (ys : List ℕ) (base i : ℕ) → Shows ys base f → i ≤ length ys
      → placed_cells m base ys i (tally_to f base) (out_to m f base xs) ≡ out_to m f (base + i) xs
  unfolding placed_cells out_to
  cells_out ys base zero s h = let e : base + 0 ≡ base = omega arith in rw e
  cells_out ys base (suc i) s h =
      let e : base + suc i ≡ suc (base + i) = omega arith in
      rw (e, s.cell i h, through_tally f ys base i s (omega arith), cells_out ys base i s (omega arith))

  -- ---- where nothing is set

  pub out_quiet : (a n : ℕ) → Unset f a (a + suc n)
      → out_to m f (a + suc n) xs ≡ placed m a (tally_to f a) 0 (tally_to f a).run (out_to m f a xs)
  unfolding out_to
  out_quiet a zero u =
      let e : a + 1 ≡ suc a = omega arith in
      rw (e, u.none a (omega arith) (omega arith))
  out_quiet a (suc n) u =
      let e : a + suc (suc n) ≡ suc (a + suc n) = omega arith in
      let less : Unset f a (a + suc n) = record { up = omega arith; none = λ k g h. u.none k g (omega arith) } in
      let none : (tally_to f (a + suc n)).run ≡ 0 = ap (λ (t : Tally). t.run) (quiet f a n less) in
      rw (e, u.none (a + suc n) (omega arith) (omega arith), none, out_quiet a n less)

  -- what `pass` does
  pub gap_out : (at base : ℕ) (zs : List ℕ) → Unset f at base
      → (at < base → zs ≡ placed m at (tally_to f at) 0 (tally_to f at).run (out_to m f at xs)) → (base ≤ at → zs ≡ out_to m f at xs)
      → zs ≡ out_to m f base xs
  gap_out at base zs u more same =
      elim (dec_lt at base) [
        | yes h ↦
            let n : ℕ = base - at - 1 in
            let s : at + suc n ≡ base = omega arith in
            more h ∙ sym (rw s at (out_quiet at n (rw s u)))
        | no h ↦ let s : at ≡ base = omega (arith, u.up) in same (omega arith) ∙ ap (λ (k : ℕ). out_to m f k xs) s
      ]

  pub out_settled : Bounded f → (k : ℕ) → last ≤ k → out_to m f k xs ≡ out_to m f last xs
  out_settled b k h =
      let n : ℕ = k - last in
      let e : 4295032830 + suc n ≡ k = omega arith in
      let u : Unset f 4295032830 (4295032830 + suc n) = record { up = omega arith; none = λ j g l. b.high j g } in
      let v : Unset f 4295032830 (4295032830 + suc 0) = record { up = omega arith; none = λ j g l. b.high j g } in
      (rw e at (out_quiet 4295032830 n u)) ∙ sym (out_quiet 4295032830 0 v)

-- ---- there is room

module _ (f : ℕ → ℕ) (b : Bounded f) where
  -- no run goes up to a position after one that isn't set
  run_none : (k : ℕ) → (tally_to f (suc k)).run ≡ 0 → f k ≡ 0
  unfolding tally_to
  run_none k e = go (f k) e
    where
      go : (c : ℕ) → (stepped c (tally_to f k)).run ≡ 0 → c ≡ 0
      go zero e = refl
      go (suc c) e = absurd (omega arith)

  begins : (k : ℕ) → (tally_to f k).run ≡ 0 → (f k ≡ 0 → ⊥) → k < 4294967296
  begins zero e h = omega arith
  begins (suc k) e h =
      elim (dec_lt k 4294967295) [ yes l ↦ omega arith | no l ↦ absurd (h (b.back k (omega arith) (run_none k e))) ]

  -- a run starts below 2^32
  pub start_low : (k : ℕ) → ((tally_to f k).run ≡ 0 → ⊥) → k - (tally_to f k).run < 4294967296
  unfolding tally_to
  start_low zero h = absurd (h refl)
  start_low (suc k) h = go (f k) refl h (λ z. start_low k z)
    where
      go : (c : ℕ) → f k ≡ c → ((stepped c (tally_to f k)).run ≡ 0 → ⊥)
          → (((tally_to f k).run ≡ 0 → ⊥) → k - (tally_to f k).run < 4294967296) → suc k - (stepped c (tally_to f k)).run < 4294967296
      go zero e h before = absurd (h refl)
      go (suc c) e h before =
          elim (ℕ_discrete (tally_to f k).run 0) [
            | yes z ↦ omega (arith, begins k z (λ n. omega arith))
            | no z ↦ omega (arith, before z)
          ]

  module _ (m n : ℕ) (room : Room m f n) where
    more_bytes : (k : ℕ) → (f k ≡ 0 → ⊥) → (tally_to f k).bytes + 1 ≤ (tally_of f).bytes
    unfolding tally_to
    more_bytes k h = omega (arith, bytes_most f b (suc k), step (f k) (tally_to f k) h)
      where
        step : (c : ℕ) (t : Tally) → (c ≡ 0 → ⊥) → t.bytes + 1 ≡ (stepped c t).bytes
        step zero t h = absurd (h refl)
        step (suc c) t h = refl

    more_runs : (k : ℕ) → f k ≡ 0 → ((tally_to f k).run ≡ 0 → ⊥) → (tally_to f k).runs + 1 ≤ (tally_of f).runs
    unfolding tally_to
    more_runs k e h = omega (arith, runs_most f b (suc k), step (f k) (tally_to f k) e h)
      where
        one : (r : ℕ) → (r ≡ 0 → ⊥) → 1 ≡ ended r
        one zero h = absurd (h refl)
        one (suc r) h = refl

        step : (c : ℕ) (t : Tally) → c ≡ 0 → (t.run ≡ 0 → ⊥) → t.runs + 1 ≡ (stepped c t).runs
        step c t e h = rw e (ap (λ (x : ℕ). t.runs + x) (one t.run h))

    pub safe_at : (k : ℕ) → Safe n m k (f k) (tally_to f k)
    unfolding size_of
    safe_at k =
        record {
          cell = b.small k;
          size = omega (arith, room.short, room.count, bytes_most f b k);
          run_k = (tally_small f k).run;
          run_bytes = run_bytes f k;
          runs = omega (arith, room.few, room.count, runs_most f b k);
          some = λ h. omega (arith, room.fits, room.count, more_bytes k h);
          ends = λ e h. (omega (arith, room.fits, room.count, more_runs k e h), start_low k h);
        }
