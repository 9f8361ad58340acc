-- Laws of cells, of what a pile sets, and of the walks over it.
-- Assumes nothing.
use Rattle.std.specs.Prelude.{ℕ, zero, suc, ◌+◌, ◌-◌, ◌≤◌, ◌<◌, List, [], ◌∷◌, ◌⊎◌, ◌≡◌, refl, length, get_or}
use Rattle.std.proofs.Common.{inl, inr, sym, ap, ◌∙◌, arith, length-set, get_or-set_same, get_or-set_other}
use Rattle.std.proofs.Math.Decide.{dec_lt, dec_le}
use Rattle.facts.specs.Fact.{Holds}
use Rattle.sheet.specs.declared.Entry.{Entry}
use Rattle.sheet.specs.Sheet.{sheet_fits, count, offset, size, position, entry_at}
use Rattle.sheet.specs.SheetLaws.{bodies_within}
use Rattle.sheet.specs.ByteAt.{byte_by, byte_at}
use Rattle.sheet.specs.ByteAtLaws.{by_covers, by_passes}
use Rattle.fold_pile.specs.Pile.{sheets}
use Rattle.fold_pile.specs.SheetsLaws.{Fitting, piled_fitting}
use Rattle.fold_cells.specs.SetAt.{over, set_from, set_at}
use Rattle.fold_cells.specs.Cells.{Good, Unset, celled, Reaches, Entered, Over, Shows}

-- ---- one sheet more

pub set_nil : (old k : ℕ) → set_from old [] k ≡ old
unfolding set_from
set_nil old k = refl

pub set_cons : (old : ℕ) (s : List ℕ) (ss : List (List ℕ)) (k : ℕ) → set_from old (s ∷ ss) k ≡ set_from (over (byte_at s k) old) ss k
unfolding set_from
set_cons old s ss k = refl

pub set_skip : (s : List ℕ) (ss : List (List ℕ)) (k : ℕ) → byte_at s k ≡ 0 → set_from 0 (s ∷ ss) k ≡ set_from 0 ss k
set_skip s ss k e = set_cons 0 s ss k ∙ ap (λ (x : ℕ). set_from (over x 0) ss k) e

-- ---- cells set one by one

pub length_celled : (xs : List ℕ) (at : ℕ) (s : List ℕ) (from n : ℕ) → length (celled xs at s from n) ≡ length xs
unfolding celled
length_celled xs at s from zero = refl
length_celled xs at s from (suc n) = length-set (celled xs at s from n) (at + n) (suc (get_or s (from + n) 0)) ∙ length_celled xs at s from n

pub celled_beside : (xs : List ℕ) (at : ℕ) (s : List ℕ) (from n i : ℕ) → (i < at) ⊎ (at + n ≤ i)
    → get_or (celled xs at s from n) i 0 ≡ get_or xs i 0
unfolding celled
celled_beside xs at s from zero i h = refl
celled_beside xs at s from (suc n) i h =
    get_or-set_other (celled xs at s from n) (at + n) i (suc (get_or s (from + n) 0)) 0 (other h) ∙ celled_beside xs at s from n i (less h)
  where
    other : (i < at) ⊎ (at + suc n ≤ i) → i ≡ at + n → ⊥
    other (inl h) e = omega arith
    other (inr h) e = omega arith

    less : (i < at) ⊎ (at + suc n ≤ i) → (i < at) ⊎ (at + n ≤ i)
    less (inl h) = inl h
    less (inr h) = inr (omega arith)

pub celled_in : (xs : List ℕ) (at : ℕ) (s : List ℕ) (from n j : ℕ) → at + n ≤ length xs → j < n
    → get_or (celled xs at s from n) (at + j) 0 ≡ suc (get_or s (from + j) 0)
unfolding celled
celled_in xs at s from zero j fits h = absurd (omega arith)
celled_in xs at s from (suc n) j fits h =
    elim (dec_lt j n) [
      | yes l ↦ get_or-set_other (celled xs at s from n) (at + n) (at + j) (suc (get_or s (from + n) 0)) 0 (omega arith)
          ∙ celled_in xs at s from n j (omega arith) l
      | no l ↦ let e : j ≡ n = omega arith in
          rw e (get_or-set_same (celled xs at s from n) (at + n) (suc (get_or s (from + n) 0)) 0 (rw length_celled (omega arith)))
    ]

-- ---- an entry

pub entered_not : (xs : List ℕ) (base : ℕ) (s : List ℕ) (w : Entry) → ((j : ℕ) → j < length xs → Reaches w (base + j) → ⊥)
    → Entered xs xs base s w
entered_not xs base s w out = record { long = refl; inside = λ j h r. absurd (out j h r); beside = λ j h r. refl }

pub entered_none : (xs : List ℕ) (base : ℕ) (s : List ℕ) (w : Entry) (a e : ℕ) → e ≤ a → w.offset ≤ a → base ≤ a
    → (w.offset < a → base ≡ a) → e ≤ w.offset + w.size → e ≤ base + length xs → (e < w.offset + w.size → base + length xs ≡ e)
    → Entered xs xs base s w
entered_none xs base s w a e none lo lb low hi hb high =
    entered_not xs base s w
    (λ j h r. elim (dec_lt w.offset a) [
      | yes l ↦ elim (dec_lt e (w.offset + w.size)) [ yes g ↦ omega (arith, low l, high g) | no g ↦ omega (arith, low l) ]
      | no l ↦ elim (dec_lt e (w.offset + w.size)) [ yes g ↦ omega (arith, high g) | no g ↦ omega arith ]
    ])

pub entered_part : (xs ys : List ℕ) (base : ℕ) (s : List ℕ) (w : Entry) (a e : ℕ) → a < e → w.offset ≤ a → base ≤ a
    → (w.offset < a → base ≡ a) → e ≤ w.offset + w.size → e ≤ base + length xs → (e < w.offset + w.size → base + length xs ≡ e)
    → ys ≡ celled xs (a - base) s (w.position + (a - w.offset)) (e - a) → Entered xs ys base s w
entered_part xs ys base s w a e some lo lb low hi hb high is =
    rw is
    (record {
      long = length_celled xs (a - base) s (w.position + (a - w.offset)) (e - a);
      inside = λ j h r. reached j h r;
      beside = λ j h r. celled_beside xs (a - base) s (w.position + (a - w.offset)) (e - a) j (out j h r);
    })
  where
    from : ℕ → ℕ
    from j = base + j - a

    low_in : (j : ℕ) → Reaches w (base + j) → a ≤ base + j
    low_in j r = elim (dec_lt w.offset a) [ yes l ↦ omega (arith, low l) | no l ↦ omega arith ]

    high_in : (j : ℕ) → j < length xs → Reaches w (base + j) → base + j < e
    high_in j h r = elim (dec_lt e (w.offset + w.size)) [ yes l ↦ omega (arith, high l) | no l ↦ omega arith ]

    reached : (j : ℕ) → j < length xs → Reaches w (base + j)
        → get_or (celled xs (a - base) s (w.position + (a - w.offset)) (e - a)) j 0 ≡ suc (get_or s (w.position + (base + j - w.offset)) 0)
    reached j h r =
        let l = low_in j r in
        let g = high_in j h r in
        let i : ℕ = base + j - a in
        let e1 : a - base + i ≡ j = omega arith in
        let e2 : w.position + (a - w.offset) + i ≡ w.position + (base + j - w.offset) = omega arith in
        rw (e1, e2) at (celled_in xs (a - base) s (w.position + (a - w.offset)) (e - a) i (omega arith) (omega arith))

    out : (j : ℕ) → j < length xs → (Reaches w (base + j) → ⊥) → (j < a - base) ⊎ (a - base + (e - a) ≤ j)
    out j h r = elim (dec_lt (base + j) a) [
      | yes l ↦ inl (omega arith)
      | no l ↦ elim (dec_lt (base + j) e) [ yes g ↦ absurd (r (omega arith, omega arith)) | no g ↦ inr (omega arith) ]
    ]

-- ---- the entries of a sheet, one after the other

-- a body lies in the sheet
pub body_within : (s : List ℕ) → Holds (sheet_fits s) → (i : ℕ) → i < count s → position s i + size s i ≤ length s
body_within s fits i h = omega (arith, bodies_within s fits.1 i h, (fits.1.0 i h).1)

pub over_none : (xs : List ℕ) (base : ℕ) (s : List ℕ) → Over xs xs base (byte_by s 0)
unfolding byte_by
over_none xs base s = record { long = refl; cell = λ j h. refl }

pub over_entry : (xs ys zs : List ℕ) (base : ℕ) (s : List ℕ) (i : ℕ) → Over xs ys base (byte_by s i)
    → Entered ys zs base s (entry_at s i) → Over xs zs base (byte_by s (suc i))
over_entry xs ys zs base s i o e =
    record {
      long = e.long ∙ o.long;
      cell = λ j h.
          let h' : j < length ys = omega (arith, o.long) in
          elim (dec_le (offset s i) (base + j)) [
            | no l ↦ rw (by_passes s i (base + j) (λ r. l r.0)) (e.beside j h' (λ r. l r.0) ∙ o.cell j h)
            | yes l ↦ elim (dec_lt (base + j) (offset s i + size s i)) [
              | no g ↦ rw (by_passes s i (base + j) (λ r. g r.1)) (e.beside j h' (λ r. g r.1) ∙ o.cell j h)
              | yes g ↦ rw (by_covers s i (base + j) l g) (e.inside j h' (l, g))
            ]
          ];
    }

-- ---- where no entry reaches

pub unset_start : (s : List ℕ) (from low : ℕ) → from ≤ low → Unset (byte_by s 0) from low
unfolding byte_by
unset_start s from low h = record { up = h; none = λ k a b. refl }

pub unset_entry : (s : List ℕ) (from low r i : ℕ) → Unset (byte_by s i) from low → from ≤ r → r ≤ low
    → ((k : ℕ) → from ≤ k → k < r → Reaches (entry_at s i) k → ⊥) → Unset (byte_by s (suc i)) from r
unset_entry s from low r i u a b out =
    record { up = a; none = λ k h l. by_passes s i k (out k h l) ∙ u.none k h (omega arith) }

-- ---- the sheets of a pile, one after the other: those that are left are ss

-- what is set is the same from here on, but where it is
pub record Seeking (p : List ℕ) (from : ℕ) (ss : List (List ℕ)) (low : ℕ) : Type 0 where
  pub fit : Fitting ss
  pub within : from ≤ low
  pub same : (k : ℕ) → from ≤ k → k < low → set_at (sheets p) k ≡ set_from 0 ss k

pub seeking_start : (p : List ℕ) (from low : ℕ) → Good p → from ≤ low → Seeking p from (sheets p) low
unfolding set_at
seeking_start p from low good h = record { fit = piled_fitting p 0 (sheets p) good; within = h; same = λ k a b. refl }

pub seeking_next : (p : List ℕ) (from : ℕ) (s : List ℕ) (ss : List (List ℕ)) (low r : ℕ) → Seeking p from (s ∷ ss) low
    → Unset (byte_at s) from r → r ≤ low → Seeking p from ss r
seeking_next p from s ss low r k u l =
    record {
      fit = k.fit.1;
      within = u.up;
      same = λ j a b. k.same j a (omega arith) ∙ set_skip s ss j (u.none j a b);
    }

pub seeking_end : (p : List ℕ) (from low : ℕ) → Seeking p from [] low → Unset (set_at (sheets p)) from low
seeking_end p from low k = record { up = k.within; none = λ j a b. k.same j a b ∙ set_nil 0 j }

-- the cells hold what the sheets before have set
pub record Filling (p : List ℕ) (base : ℕ) (ss : List (List ℕ)) (ys : List ℕ) : Type 0 where
  pub fit : Fitting ss
  pub same : (j : ℕ) → j < length ys → set_from (get_or ys j 0) ss (base + j) ≡ set_at (sheets p) (base + j)

pub filling_start : (p : List ℕ) (base : ℕ) (ys : List ℕ) → Good p → ((j : ℕ) → j < length ys → get_or ys j 0 ≡ 0)
    → Filling p base (sheets p) ys
unfolding set_at
filling_start p base ys good none =
    record {
      fit = piled_fitting p 0 (sheets p) good;
      same = λ j h. ap (λ (x : ℕ). set_from x (sheets p) (base + j)) (none j h);
    }

pub filling_next : (p : List ℕ) (base : ℕ) (s : List ℕ) (ss : List (List ℕ)) (ys zs : List ℕ) → Filling p base (s ∷ ss) ys
    → Over ys zs base (byte_at s) → Filling p base ss zs
filling_next p base s ss ys zs k o =
    record {
      fit = k.fit.1;
      same = λ j l.
          let l' : j < length ys = omega (arith, o.long) in
          rw (o.cell j l') (sym (set_cons (get_or ys j 0) s ss (base + j)) ∙ k.same j l');
    }

pub filling_end : (p : List ℕ) (base : ℕ) (ys : List ℕ) → Filling p base [] ys → Shows ys base (set_at (sheets p))
filling_end p base ys k = record { cell = λ j l. sym (set_nil (get_or ys j 0) (base + j)) ∙ k.same j l }
