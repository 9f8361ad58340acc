-- The folded sheet read as a sheet: it passes 15, and sets at each position what f has there.
-- Assumes nothing.
use Prim.Native.Nat.{ℕ, zero, suc, ◌+◌, ◌-◌, ◌*◌, ◌%◌, ◌^◌, ◌≤◌, ◌<◌}
use Rattle.std.specs.Prelude.{List, [], ◌∷◌, ◌++◌, ◌≡◌, get_or}
use Rattle.std.proofs.Math.Path.{refl, sym, ap}
use Rattle.std.proofs.Common.{◌∙◌, mod-eq_of_lt, add-one, length-append, get_or-append-add}
use native.Mathlib.Omega.{arith}
use Rattle.std.proofs.Math.Decide.{dec_lt}
use borrow.Author.Count.{below_more}
use Rattle.std.proofs.Math.ListN.{length, get_or-append}
use Rattle.facts.specs.Fact.{Holds}
use Rattle.words.specs.Le.{le}
use Rattle.words.specs.Number.{number}
use Rattle.words.specs.NumberLaws.{length_number, le_number}
use Rattle.answers.specs.declared.Identity.{Identity}
use Rattle.sheet.specs.Sheet.{sheet_identity, count, offset, size, position, body_at, end_before, entry_fits, contents_fit, bodies_fit, sheet_fits}
use Rattle.sheet.specs.ByteAt.{covers, byte_by, byte_at}
use Rattle.sheet.specs.ByteAtLaws.{by_covers, by_passes}
use Rattle.fold_cells.specs.Cells.{last, Bounded}
use Rattle.fold_tally.specs.declared.Tally.{Tally}
use Rattle.fold_tally.specs.Tally.{stepped, tally_to, tally_of}
use Rattle.fold_tally.specs.TallyLaws.{tally_small, run_bytes, runs_most, bytes_most}
use Rattle.fold_sheet.specs.Folded.{header, entry, ending, entries_to, body, bodies_to, sheet_of, size_of}
use Rattle.fold_sheet.specs.PlacingLaws.{At, length_header, length_entries, length_bodies, length_sheet}
use Rattle.fold_sheet.specs.WindowLaws.{start_low}
use Rattle.fold_laws.specs.Steps.{by_step}

-- ---- parts of a list that stands in another

at_self : (xs : List ℕ) → At xs 0 xs
at_self xs = record { same = λ j h. let z : 0 + j ≡ j = omega arith in rw z }

at_left : (xs : List ℕ) (at : ℕ) (us vs : List ℕ) → At xs at (us ++ vs) → At xs at us
at_left xs at us vs a =
    record { same = λ j h. a.same j (omega (arith, length-append us vs)) ∙ get_or-append us vs 0 j h }

at_right : (xs : List ℕ) (at : ℕ) (us vs : List ℕ) → At xs at (us ++ vs) → At xs (at + length us) vs
at_right xs at us vs a =
    record {
      same = λ j h.
          let e : at + (length us + j) ≡ at + length us + j = omega arith in
          (rw e at (a.same (length us + j) (omega (arith, length-append us vs)))) ∙ get_or-append-add us vs j 0;
    }

le_shift : (k : ℕ) (xs : List ℕ) (at : ℕ) (ys : List ℕ) → ((j : ℕ) → j < k → get_or xs (at + j) 0 ≡ get_or ys j 0) → le k xs at ≡ le k ys 0
unfolding le
le_shift zero xs at ys e = refl
le_shift (suc k) xs at ys e =
    let z : 0 + k ≡ k = omega arith in
    rw (z, e k (omega arith), le_shift k xs at ys (λ j h. e j (omega arith)))

-- a number that stands there is read
le_at : (k w : ℕ) (xs : List ℕ) (at : ℕ) → At xs at (number k w) → w < 256 ^ k → le k xs at ≡ w
le_at k w xs at a h =
    le_shift k xs at (number k w) (λ j l. a.same j (omega (arith, length_number k w))) ∙ le_number k w ∙ mod-eq_of_lt h

-- ---- the entries and bodies of fewer positions

module _ (xs : List ℕ) (at m : ℕ) (f : ℕ → ℕ) where
  entries_less : (n k : ℕ) → At xs at (entries_to m f (k + n)) → At xs at (entries_to m f k)
  unfolding entries_to
  entries_less zero k a = let e : k + 0 ≡ k = omega arith in rw e at a
  entries_less (suc n) k a =
      let e : k + suc n ≡ suc (k + n) = omega arith in
      entries_less n k
      (at_left xs at (entries_to m f (k + n)) (ending m (k + n) (tally_to f (k + n)) (f (k + n)) (tally_to f (k + n)).run) (rw e at a))

  bodies_less : (n k : ℕ) → At xs at (bodies_to f (k + n)) → At xs at (bodies_to f k)
  unfolding bodies_to
  bodies_less zero k a = let e : k + 0 ≡ k = omega arith in rw e at a
  bodies_less (suc n) k a =
      let e : k + suc n ≡ suc (k + n) = omega arith in
      bodies_less n k (at_left xs at (bodies_to f (k + n)) (body (f (k + n))) (rw e at a))

-- the bytes of the run that goes up to k are the last of the bodies
tail : (f : ℕ → ℕ) (k d : ℕ) → d < (tally_to f k).run
    → suc (get_or (bodies_to f k) ((tally_to f k).bytes - (tally_to f k).run + d) 0) ≡ f (k - (tally_to f k).run + d)
unfolding bodies_to tally_to
tail f zero d h = absurd (omega arith)
tail f (suc k) d h = go (f k) refl h (λ l. tail f k d l)
  where
    go : (c : ℕ) → f k ≡ c → d < (stepped c (tally_to f k)).run
        → (d < (tally_to f k).run → suc (get_or (bodies_to f k) ((tally_to f k).bytes - (tally_to f k).run + d) 0) ≡ f (k - (tally_to f k).run + d))
        → suc (get_or (bodies_to f k ++ body c) ((stepped c (tally_to f k)).bytes - (stepped c (tally_to f k)).run + d) 0)
        ≡ f (suc k - (stepped c (tally_to f k)).run + d)
    go zero e h before = absurd (omega arith)
    go (suc b) e h before =
        let t = tally_to f k in
        let small = run_bytes f k in
        let low = (tally_small f k).run in
        let e1 : t.bytes + 1 - (t.run + 1) + d ≡ t.bytes - t.run + d = omega arith in
        let e2 : suc k - (t.run + 1) + d ≡ k - t.run + d = omega arith in
        elim (dec_lt d t.run) [
          | yes l ↦ rw (e1, e2)
              (ap suc (get_or-append (bodies_to f k) (b ∷ []) 0 (t.bytes - t.run + d) (omega (arith, length_bodies f k))) ∙ before l)
          | no l ↦
              let e3 : t.bytes - t.run + d ≡ length (bodies_to f k) + 0 = omega (arith, length_bodies f k) in
              let e4 : k - t.run + d ≡ k = omega arith in
              rw (e1, e2, e3, e4, e) (ap suc (get_or-append-add (bodies_to f k) (b ∷ []) 0 0))
        ]

-- ---- the sheet of f

-- s is the header, the entries and the bodies of f
record Sheeted (i : Identity) (f : ℕ → ℕ) (m : ℕ) (s : List ℕ) : Type 0 where
  bounded : Bounded f
  runs : m ≡ (tally_to f last).runs
  few : m ≤ 256
  short : 16 + 8 * m + (tally_to f last).bytes ≤ 65535
  long : length s ≡ 16 + 8 * m + (tally_to f last).bytes
  head : At s 0 (header i m)
  entries : At s 16 (entries_to m f last)
  bodies : At s (16 + 8 * m) (bodies_to f last)

sheeted : (i : Identity) (f : ℕ → ℕ) → Bounded f → (tally_of f).runs ≤ 256 → size_of f ≤ 65535 → Sheeted i f (tally_of f).runs (sheet_of i f)
unfolding sheet_of size_of tally_of
sheeted i f b few short =
    let m = (tally_to f last).runs in
    let es = entries_to m f last in
    let bs = bodies_to f last in
    let s = header i m ++ (es ++ bs) in
    let rest : At s (0 + length (header i m)) (es ++ bs) = at_right s 0 (header i m) (es ++ bs) (at_self s) in
    let e1 : 0 + length (header i m) ≡ 16 = omega (arith, length_header i m) in
    let tail : At s 16 (es ++ bs) = rw e1 at rest in
    let e2 : 16 + length es ≡ 16 + 8 * m = omega (arith, length_entries m f last) in
    record {
      bounded = b;
      runs = refl;
      few = few;
      short = short;
      long = length_sheet i f;
      head = at_left s 0 (header i m) (es ++ bs) (at_self s);
      entries = at_left s 16 es bs tail;
      bodies = rw e2 at (at_right s 16 es bs tail);
    }

module _ (i : Identity) (f : ℕ → ℕ) (m : ℕ) (s : List ℕ) (r : Sheeted i f m s) where
  -- the four numbers of the header
  parts : At s 0 (number 8 i.image) × At s 8 (number 4 i.revision) × At s 12 (number 2 m) × At s 14 (number 2 i.extended)
  unfolding header
  parts =
      let a : At s 0 (header i m) = r.head in
      let t1 = number 4 i.revision ++ (number 2 m ++ number 2 i.extended) in
      let t2 = number 2 m ++ number 2 i.extended in
      let e1 : 0 + length (number 8 i.image) ≡ 8 = omega (arith, length_number 8 i.image) in
      let e2 : 8 + length (number 4 i.revision) ≡ 12 = omega (arith, length_number 4 i.revision) in
      let e3 : 12 + length (number 2 m) ≡ 14 = omega (arith, length_number 2 m) in
      let a1 : At s 8 (number 4 i.revision ++ (number 2 m ++ number 2 i.extended)) = rw e1 at (at_right s 0 (number 8 i.image) t1 a) in
      let a2 : At s 12 (number 2 m ++ number 2 i.extended) = rw e2 at (at_right s 8 (number 4 i.revision) t2 a1) in (
        at_left s 0 (number 8 i.image) t1 a,
        at_left s 8 (number 4 i.revision) t2 a1,
        at_left s 12 (number 2 m) (number 2 i.extended) a2,
        rw e3 at (at_right s 12 (number 2 m) (number 2 i.extended) a2),
      )

  count_is : count s ≡ m
  count_is = le_at 2 m s 12 parts.2 (omega (arith, r.few))

  identity_is : i.image < 256 ^ 8 → i.revision < 256 ^ 4 → i.extended < 256 ^ 2 → sheet_identity s ≡ i
  identity_is a b c =
      let e1 = le_at 8 i.image s 0 parts.0 a in
      let e2 = le_at 4 i.revision s 8 parts.1 b in
      let e3 = le_at 2 i.extended s 14 parts.3 c in
      rw (e1, e2, e3)

  most_bytes : (k : ℕ) → (tally_to f k).bytes ≤ (tally_to f last).bytes
  unfolding tally_of
  most_bytes k = bytes_most f r.bounded k

  -- the three numbers of an entry
  three : (at o n p : ℕ) → At s at (entry o n p) → o < 256 ^ 4 → n < 256 ^ 2 → p < 256 ^ 2
      → (le 4 s at ≡ o) × (le 2 s (at + 4) ≡ n) × (le 2 s (at + 6) ≡ p)
  unfolding entry
  three at o n p a ho hn hp =
      let e1 : at + length (number 4 o) ≡ at + 4 = omega (arith, length_number 4 o) in
      let e2 : at + 4 + length (number 2 n) ≡ at + 6 = omega (arith, length_number 2 n) in
      let a1 : At s (at + 4) (number 2 n ++ number 2 p) = rw e1 at (at_right s at (number 4 o) (number 2 n ++ number 2 p) a) in
      let a2 : At s (at + 6) (number 2 p) = rw e2 at (at_right s (at + 4) (number 2 n) (number 2 p) a1) in (
        le_at 4 o s at (at_left s at (number 4 o) (number 2 n ++ number 2 p) a) ho,
        le_at 2 n s (at + 4) (at_left s (at + 4) (number 2 n) (number 2 p) a1) hn,
        le_at 2 p s (at + 6) a2 hp,
      )

  entry_of : (k : ℕ) → f k ≡ 0 → ((tally_to f k).run ≡ 0 → ⊥) → At s 16 (entries_to m f (suc k))
      → At s (16 + 8 * (tally_to f k).runs)
      (entry (k - (tally_to f k).run) (tally_to f k).run (16 + 8 * m + ((tally_to f k).bytes - (tally_to f k).run)))
  unfolding entries_to
  entry_of k e some a = go (f k) (tally_to f k).run e some (rw size at (at_right s 16 (entries_to m f k) _ a))
    where
      size : 16 + length (entries_to m f k) ≡ 16 + 8 * (tally_to f k).runs
      size = omega (arith, length_entries m f k)

      go : (c n : ℕ) → c ≡ 0 → (n ≡ 0 → ⊥) → At s (16 + 8 * (tally_to f k).runs) (ending m k (tally_to f k) c n)
          → At s (16 + 8 * (tally_to f k).runs)
          (entry (k - (tally_to f k).run) (tally_to f k).run (16 + 8 * m + ((tally_to f k).bytes - (tally_to f k).run)))
      go zero zero e h a = absurd (h refl)
      go zero (suc n) e h a = a
      go (suc c) n e h a = absurd (omega arith)

  -- the entry of a run that ends at k
  ends_at : (k : ℕ) → k < last → f k ≡ 0 → ((tally_to f k).run ≡ 0 → ⊥)
      → (offset s (tally_to f k).runs ≡ k - (tally_to f k).run) × (size s (tally_to f k).runs ≡ (tally_to f k).run)
      × (position s (tally_to f k).runs ≡ 16 + 8 * m + ((tally_to f k).bytes - (tally_to f k).run))
  ends_at k h e some =
      let t = tally_to f k in
      let n : ℕ = last - suc k in
      let z : suc k + n ≡ last = omega arith in
      let more : At s 16 (entries_to m f (suc k)) = entries_less s 16 m f n (suc k) (rw z r.entries) in
      three (16 + 8 * t.runs) (k - t.run) t.run (16 + 8 * m + (t.bytes - t.run)) (entry_of k e some more)
      (start_low f r.bounded k some) (omega (arith, r.short, most_bytes k, run_bytes f k))
      (omega (arith, r.short, most_bytes k, run_bytes f k))

  -- its bytes
  body_of : (k d : ℕ) → k < last → d < (tally_to f k).run
      → suc (get_or s (16 + 8 * m + ((tally_to f k).bytes - (tally_to f k).run) + d) 0) ≡ f (k - (tally_to f k).run + d)
  body_of k d h l =
      let t = tally_to f k in
      let n : ℕ = last - k in
      let z : k + n ≡ last = omega arith in
      let a : At s (16 + 8 * m) (bodies_to f k) = bodies_less s (16 + 8 * m) m f n k (rw z r.bodies) in
      let e : 16 + 8 * m + (t.bytes - t.run + d) ≡ 16 + 8 * m + (t.bytes - t.run) + d = omega arith in
      ap suc (rw e at (a.same (t.bytes - t.run + d) (omega (arith, length_bodies f k, run_bytes f k)))) ∙ tail f k d l

  byte_none : (j : ℕ) → byte_by s (tally_to f 0).runs j ≡ 0
  unfolding byte_by tally_to
  byte_none j = refl

  abbrev Before : ℕ → ℕ → Type 0
  Before k j = (j < k - (tally_to f k).run → byte_by s (tally_to f k).runs j ≡ f j)
      × (k - (tally_to f k).run ≤ j → byte_by s (tally_to f k).runs j ≡ 0)

  idle_at : (k j : ℕ) → f k ≡ 0 → (tally_to f k).run ≡ 0 → j < suc k → Before k j → byte_by s (tally_to f k).runs j ≡ f j
  idle_at k j e idle h before =
      elim (dec_lt j k) [
        | yes l ↦ before.0 (omega arith)
        | no l ↦ let z : j ≡ k = omega arith in before.1 (omega arith) ∙ sym e ∙ ap f (sym z)
      ]

  ends_in : (k j : ℕ) → k < last → f k ≡ 0 → ((tally_to f k).run ≡ 0 → ⊥) → j < suc k → Before k j
      → byte_by s (suc (tally_to f k).runs) j ≡ f j
  ends_in k j h e some l before =
      let t = tally_to f k in
      let low = (tally_small f k).run in
      let (o, n, p) = ends_at k h e some in
      elim (dec_lt j (k - t.run)) [
        | yes g ↦ by_passes s t.runs j (λ c. omega (arith, c.0, o)) ∙ before.0 g
        | no g ↦ elim (dec_lt j k) [
          | yes a ↦
              let d : ℕ = j - (k - t.run) in
              let x : k - t.run + d ≡ j = omega arith in
              let y : j - offset s t.runs ≡ d = omega (arith, o) in
              by_covers s t.runs j (omega (arith, o)) (omega (arith, o, n))
              ∙ rw (p, y) (body_of k d h (omega arith)) ∙ ap f x
          | no a ↦
              let z : j ≡ k = omega arith in
              by_passes s t.runs j (λ c. omega (arith, c.1, o, n)) ∙ before.1 (omega arith) ∙ sym e ∙ ap f (sym z)
        ]
      ]

  ends_out : (k j : ℕ) → k < last → f k ≡ 0 → ((tally_to f k).run ≡ 0 → ⊥) → suc k ≤ j → Before k j
      → byte_by s (suc (tally_to f k).runs) j ≡ 0
  ends_out k j h e some l before =
      let (o, n, p) = ends_at k h e some in
      by_passes s (tally_to f k).runs j (λ c. omega (arith, c.1, o, n, (tally_small f k).run)) ∙ before.1 (omega arith)

  -- ---- what it sets: the entries of the runs that have ended before k set f below the run that goes up to k, and nothing from there on

  sets_to : (k j : ℕ) → k ≤ last
      → (j < k - (tally_to f k).run → byte_by s (tally_to f k).runs j ≡ f j) × (k - (tally_to f k).run ≤ j → byte_by s (tally_to f k).runs j ≡ 0)
  sets_to zero j h = ((λ l. absurd (omega arith)), none j)
    where
      none : (j : ℕ) → 0 - (tally_to f 0).run ≤ j → byte_by s (tally_to f 0).runs j ≡ 0
      none j l = byte_none j
  sets_to (suc k) j h =
      let before = sets_to k j (omega arith) in
      let t = tally_to f k in
      by_step f k _
      (λ c e run runs bytes.
      ((λ l. rw runs (before.0 (omega (arith, run)))), λ l. rw runs (before.1 (omega (arith, run)))))
      (λ e idle run runs bytes. (
        (λ l. rw runs (idle_at k j e idle (omega (arith, run)) before)),
        λ l. rw runs (before.1 (omega (arith, run, idle))),
      ))
      (λ e some run runs bytes. (
        (λ l. rw (runs, add-one) (ends_in k j h e some (omega (arith, run)) before)),
        λ l. rw (runs, add-one) (ends_out k j h e some (omega (arith, run)) before),
      ))

  run_after : (k : ℕ) → f k ≡ 0 → (tally_to f (suc k)).run ≡ 0
  unfolding tally_to
  run_after k e = ap (λ (c : ℕ). (stepped c (tally_to f k)).run) e

  run_last : (tally_to f last).run ≡ 0
  run_last = run_after 4295032830 (r.bounded.high 4295032830 (omega arith))

  -- at each position it sets what f has
  sets : (j : ℕ) → byte_at s j ≡ f j
  unfolding byte_at
  sets j =
      let c : count s ≡ (tally_to f last).runs = count_is ∙ r.runs in
      let w = sets_to last j (omega arith) in
      elim (dec_lt j last) [
        | yes l ↦ ap (λ (n : ℕ). byte_by s n j) c ∙ w.0 (omega (arith, run_last))
        | no l ↦ ap (λ (n : ℕ). byte_by s n j) c ∙ w.1 (omega arith) ∙ sym (r.bounded.high j (omega arith))
      ]

  -- ---- it passes 15

  record Fitting (k : ℕ) : Type 0 where
    each : (n : ℕ) → n < (tally_to f k).runs → Holds (entry_fits s n)
    body : body_at s (tally_to f k).runs ≡ 16 + 8 * m + ((tally_to f k).bytes - (tally_to f k).run)
    end : end_before s (tally_to f k).runs ≤ k - (tally_to f k).run

  fitting_none : Fitting 0
  unfolding body_at tally_to
  fitting_none =
      record { each = λ n h. absurd (omega arith); body = omega (arith, count_is); end = omega arith }

  fitting_ends : (k : ℕ) → k < last → f k ≡ 0 → ((tally_to f k).run ≡ 0 → ⊥) → Fitting k → (tally_to f (suc k)).run ≡ 0
      → (tally_to f (suc k)).runs ≡ (tally_to f k).runs + 1 → (tally_to f (suc k)).bytes ≡ (tally_to f k).bytes → Fitting (suc k)
  unfolding body_at
  fitting_ends k h e some w run runs bytes =
      let t = tally_to f k in
      let low = (tally_small f k).run in
      let few = run_bytes f k in
      let (o, n, p) = ends_at k h e some in
      let here : Holds (entry_fits s t.runs) =
      (omega (arith, n), (p ∙ sym w.body, omega (arith, o, w.end))) in
      let next : (tally_to f (suc k)).runs ≡ suc t.runs = omega arith in
      record {
        each = λ j l. below_more (λ (x : ℕ). Holds (entry_fits s x)) t.runs w.each here j (omega arith);
        body = ap (body_at s) next ∙ omega (arith, w.body, n);
        end = rw next (omega (arith, o, n));
      }

  fitting : (k : ℕ) → k ≤ last → Fitting k
  fitting zero h = fitting_none
  fitting (suc k) h =
      let w = fitting k (omega arith) in
      by_step f k (Fitting (suc k))
      (λ c e run runs bytes.
      record {
        each = λ n l. w.each n (omega arith);
        body = ap (body_at s) runs ∙ w.body ∙ omega (arith, run_bytes f k);
        end = rw runs (omega (arith, w.end));
      })
      (λ e idle run runs bytes.
      record {
        each = λ n l. w.each n (omega arith);
        body = ap (body_at s) runs ∙ w.body ∙ omega arith;
        end = rw runs (omega (arith, w.end));
      })
      (λ e some run runs bytes. fitting_ends k h e some w run runs bytes)

  fits : Holds (sheet_fits s)
  fits =
      let w = fitting last (omega arith) in
      let c : count s ≡ (tally_to f last).runs = count_is ∙ r.runs in (
        (omega (arith, r.long), (omega (arith, r.long, r.short), (omega (arith, count_is, r.few), omega (arith, count_is, r.long)))),
        ((λ n h. w.each n (omega arith)), ap (body_at s) c ∙ w.body ∙ omega (arith, r.long, run_last)),
      )

-- ---- of the folded sheet

module _ (i : Identity) (f : ℕ → ℕ) (b : Bounded f) (few : (tally_of f).runs ≤ 256) (short : size_of f ≤ 65535) where
  pub sheet_fits_lem : Holds (sheet_fits (sheet_of i f))
  sheet_fits_lem = fits i f (tally_of f).runs (sheet_of i f) (sheeted i f b few short)

  pub sheet_sets : (j : ℕ) → byte_at (sheet_of i f) j ≡ f j
  sheet_sets j = sets i f (tally_of f).runs (sheet_of i f) (sheeted i f b few short) j

  pub sheet_names : i.image < 256 ^ 8 → i.revision < 256 ^ 4 → i.extended < 256 ^ 2 → sheet_identity (sheet_of i f) ≡ i
  sheet_names = identity_is i f (tally_of f).runs (sheet_of i f) (sheeted i f b few short)
