-- Laws of the count.
-- Assumes nothing.
use Rattle.std.specs.Prelude.{ℕ, zero, suc, ◌+◌, ◌-◌, ◌≤◌, ◌<◌, List, ◌≡◌, refl, length, get_or}
use Rattle.std.proofs.Common.{sym, ap, ◌∙◌, add-one}
use native.Mathlib.Omega.{arith}
use Rattle.std.proofs.Math.Decide.{dec_lt, ℕ_discrete}
use Rattle.std.specs.Int.Bits.{bit_or, or_add_and}
use Rattle.std.proofs.lemmas.Nat.{and_le_l, and_le_r}
use Rattle.fold_cells.specs.Cells.{last, Unset, Shows, Bounded}
use Rattle.fold_tally.specs.declared.Tally.{Tally}
use Rattle.fold_tally.specs.Tally.{ended, stepped, tally_to, tally_of, through, Small, Gapped, Counted, Blank, Skipped}

-- ---- nothing counted

pub tally_none : (t : Tally) → (t.run ≡ 0) × ((t.runs ≡ 0) × (t.bytes ≡ 0)) → t ≡ record { run = 0; runs = 0; bytes = 0 }
tally_none t h = λ i. record { run = h.0 i; runs = h.1.0 i; bytes = h.1.1 i }

-- ---- a step

pub step_some : (c : ℕ) (t : Tally) → (c ≡ 0 → ⊥) → record { run = t.run + 1; runs = t.runs; bytes = t.bytes + 1 } ≡ stepped c t
step_some zero t h = absurd (h refl)
step_some (suc b) t h = refl

ended_some : (n : ℕ) → (n ≡ 0 → ⊥) → 1 ≡ ended n
ended_some zero h = absurd (h refl)
ended_some (suc n) h = refl

pub step_idle : (c : ℕ) (t : Tally) → c ≡ 0 → t.run ≡ 0 → t ≡ stepped c t
step_idle c t e h =
    let z : t.runs ≡ t.runs + ended t.run = rw h (omega arith) in
    rw e (ap (λ (x : ℕ). record { run = x; runs = t.runs; bytes = t.bytes }) h
    ∙ ap (λ (x : ℕ). record { run = 0; runs = x; bytes = t.bytes }) z)

pub step_ends : (c : ℕ) (t : Tally) → c ≡ 0 → (t.run ≡ 0 → ⊥) → record { run = 0; runs = t.runs + 1; bytes = t.bytes } ≡ stepped c t
step_ends c t e h = rw e (ap (λ (x : ℕ). record { run = 0; runs = t.runs + x; bytes = t.bytes }) (ended_some t.run h))

ended_most : (n : ℕ) → ended n ≤ 1
ended_most zero = omega arith
ended_most (suc n) = omega arith

pub step_small : (c : ℕ) (t : Tally) (n : ℕ) → Small t n → Small (stepped c t) (n + 1)
step_small zero t n s = record { run = omega arith; runs = omega (arith, s.runs, ended_most t.run); bytes = omega (arith, s.bytes) }
step_small (suc b) t n s = record { run = omega (arith, s.run); runs = omega (arith, s.runs); bytes = omega (arith, s.bytes) }

pub tally_small : (f : ℕ → ℕ) (k : ℕ) → Small (tally_to f k) k
unfolding tally_to
tally_small f zero = record { run = omega arith; runs = omega arith; bytes = omega arith }
tally_small f (suc k) = rw add-one at (step_small (f k) (tally_to f k) k (tally_small f k))

pub small_up : {t : Tally} {n : ℕ} → Small t n → (m : ℕ) → n ≤ m → Small t m
small_up s m h = record { run = omega (arith, s.run); runs = omega (arith, s.runs); bytes = omega (arith, s.bytes) }

-- the run is a part of what is set
run_step : (c : ℕ) (t : Tally) → t.run ≤ t.bytes → (stepped c t).run ≤ (stepped c t).bytes
run_step zero t h = omega arith
run_step (suc b) t h = omega arith

pub run_bytes : (f : ℕ → ℕ) (k : ℕ) → (tally_to f k).run ≤ (tally_to f k).bytes
unfolding tally_to
run_bytes f zero = omega arith
run_bytes f (suc k) = run_step (f k) (tally_to f k) (run_bytes f k)

-- ---- through cells

pub through_one : (ys : List ℕ) (i : ℕ) (t : Tally) → through ys (i + 1) t ≡ stepped (get_or ys i 0) (through ys i t)
unfolding through
through_one ys i t = rw add-one

pub through_none : (ys : List ℕ) (t : Tally) → through ys 0 t ≡ t
unfolding through
through_none ys t = refl

pub through_small : (ys : List ℕ) (t : Tally) (n i : ℕ) → Small t n → Small (through ys i t) (n + i)
unfolding through
through_small ys t n zero s = small_up s (n + 0) (omega arith)
through_small ys t n (suc i) s =
    small_up (step_small (get_or ys i 0) (through ys i t) (n + i) (through_small ys t n i s)) (n + suc i) (omega arith)

-- cells in which nothing is set change nothing where no run is open
pub through_on : (ys : List ℕ) (t : Tally) (i n : ℕ) → (through ys i t).run ≡ 0 → Blank ys i (i + n) → through ys (i + n) t ≡ through ys i t
unfolding through
through_on ys t i zero none b = let e : i + 0 ≡ i = omega arith in rw e
through_on ys t i (suc n) none b =
    let e : i + suc n ≡ suc (i + n) = omega arith in
    let before = through_on ys t i n none (λ j g l. b j g (omega arith)) in
    rw (e, b (i + n) (omega arith) (omega arith), before) (sym (step_idle 0 (through ys i t) refl none))

pub blank_join : (ys : List ℕ) (a b c : ℕ) → Blank ys a b → Blank ys b c → Blank ys a c
blank_join ys a b c s t j h l = elim (dec_lt j b) [ yes g ↦ s j h g | no g ↦ t j (omega arith) l ]

blank_one : (ys : List ℕ) (i : ℕ) → get_or ys i 0 ≡ 0 → Blank ys i (i + 1)
blank_one ys i e j h l = let s : j ≡ i = omega arith in rw s e

-- no bit of x | y is set where neither has one
pub or_none : (x y : ℕ) → bit_or x y ≡ 0 → (x ≡ 0) × (y ≡ 0)
or_none x y e = let s = or_add_and x y in (omega (arith, s, and_le_r x y), omega (arith, s, and_le_l x y))

pub blank_four : (ys : List ℕ) (i : ℕ)
    → bit_or (bit_or (bit_or (get_or ys i 0) (get_or ys (i + 1) 0)) (get_or ys (i + 2) 0)) (get_or ys (i + 3) 0) ≡ 0 → Blank ys i (i + 4)
blank_four ys i e =
    let three = or_none _ _ e in
    let two = or_none _ _ three.0 in
    let one = or_none _ _ two.0 in
    let e2 : i + 1 + 1 ≡ i + 2 = omega arith in
    let e3 : i + 2 + 1 ≡ i + 3 = omega arith in
    let e4 : i + 3 + 1 ≡ i + 4 = omega arith in
    blank_join ys i (i + 1) (i + 4) (blank_one ys i one.0)
    (blank_join ys (i + 1) (i + 2) (i + 4) (rw e2 at (blank_one ys (i + 1) one.1))
    (blank_join ys (i + 2) (i + 3) (i + 4) (rw e3 at (blank_one ys (i + 2) two.1)) (rw e4 at (blank_one ys (i + 3) three.1))))

pub skipped_none : (ys : List ℕ) (i : ℕ) → i < length ys → Skipped ys i i
skipped_none ys i h = record { on = omega arith; within = h; blank = λ j g l. absurd (omega arith) }

pub skipped_on : (ys : List ℕ) (i k r : ℕ) → Skipped ys i k → r < length ys → k ≤ r → Blank ys k r → Skipped ys i r
skipped_on ys i k r s h g b = record { on = omega (arith, s.on); within = h; blank = blank_join ys i k r s.blank b }

pub skipped_join : (ys : List ℕ) (i k r : ℕ) → Skipped ys i k → Skipped ys k r → Skipped ys i r
skipped_join ys i k r s t = skipped_on ys i k r s t.within t.on t.blank

pub skipped_one : (ys : List ℕ) (i k : ℕ) → Skipped ys i k → get_or ys k 0 ≡ 0 → k + 1 < length ys → Skipped ys i (k + 1)
skipped_one ys i k s e h = skipped_on ys i k (k + 1) s h (omega arith) (blank_one ys k e)

pub through_past : (ys : List ℕ) (t u : Tally) (i r : ℕ) → u ≡ through ys i t → Skipped ys i r → ((u.run ≡ 0 → ⊥) → r ≡ i)
    → u ≡ through ys r t
through_past ys t u i r e s stay =
    elim (ℕ_discrete u.run 0) [
      | yes z ↦
          let n : ℕ = r - i in
          let d : i + n ≡ r = omega (arith, s.on) in
          e ∙ sym (rw d at (through_on ys t i n (rw e at z) (rw d s.blank)))
      | no z ↦ rw (stay z) e
    ]

-- cells that show f count as f does
pub through_tally : (f : ℕ → ℕ) (ys : List ℕ) (base i : ℕ) → Shows ys base f → i ≤ length ys
    → through ys i (tally_to f base) ≡ tally_to f (base + i)
unfolding through tally_to
through_tally f ys base zero s h = let e : base + 0 ≡ base = omega arith in rw e
through_tally f ys base (suc i) s h =
    let e : base + suc i ≡ suc (base + i) = omega arith in
    rw (e, s.cell i h, through_tally f ys base i s (omega arith))

-- ---- where nothing is set

pub quiet : (f : ℕ → ℕ) (a n : ℕ) → Unset f a (a + suc n) → tally_to f (a + suc n) ≡ stepped 0 (tally_to f a)
unfolding tally_to
quiet f a zero u =
    let e : a + 1 ≡ suc a = omega arith in
    rw (e, u.none a (omega arith) (omega arith))
quiet f a (suc n) u =
    let e : a + suc (suc n) ≡ suc (a + suc n) = omega arith in
    let less : Unset f a (a + suc n) = record { up = omega arith; none = λ k g h. u.none k g (omega arith) } in
    rw (e, u.none (a + suc n) (omega arith) (omega arith), quiet f a n less)
    (ap (λ (x : ℕ). record { run = 0; runs = x; bytes = (tally_to f a).bytes }) (omega arith))

pub gap_tally : (f : ℕ → ℕ) (at base : ℕ) (t r : Tally) → Unset f at base → t ≡ tally_to f at → Gapped at base t r → r ≡ tally_to f base
gap_tally f at base t r u e g =
    elim (dec_lt at base) [
      | yes h ↦
          let n : ℕ = base - at - 1 in
          let s : at + suc n ≡ base = omega arith in
          g.0 h ∙ ap (stepped 0) e ∙ sym (rw s at (quiet f at n (rw s u)))
      | no h ↦ let s : at ≡ base = omega (arith, u.up) in g.1 (omega arith) ∙ e ∙ ap (tally_to f) s
    ]

-- from `last` on nothing changes
pub settled : (f : ℕ → ℕ) → Bounded f → (k : ℕ) → last ≤ k → tally_to f k ≡ tally_of f
unfolding tally_of
settled f b k h =
    let n : ℕ = k - last in
    let e : 4295032830 + suc n ≡ k = omega arith in
    let u : Unset f 4295032830 (4295032830 + suc n) = record { up = omega arith; none = λ j g l. b.high j g } in
    let v : Unset f 4295032830 (4295032830 + suc 0) = record { up = omega arith; none = λ j g l. b.high j g } in
    (rw e at (quiet f 4295032830 n u)) ∙ sym (quiet f 4295032830 0 v)

-- ---- counts only grow

runs_step : (c : ℕ) (t : Tally) → t.runs ≤ (stepped c t).runs
runs_step zero t = omega arith
runs_step (suc b) t = omega arith

bytes_step : (c : ℕ) (t : Tally) → t.bytes ≤ (stepped c t).bytes
bytes_step zero t = omega arith
bytes_step (suc b) t = omega arith

pub runs_grow : (f : ℕ → ℕ) (k n : ℕ) → (tally_to f k).runs ≤ (tally_to f (k + n)).runs
unfolding tally_to
runs_grow f k zero = let e : k + 0 ≡ k = omega arith in rw e (omega arith)
runs_grow f k (suc n) =
    let e : k + suc n ≡ suc (k + n) = omega arith in
    rw e (omega (arith, runs_grow f k n, runs_step (f (k + n)) (tally_to f (k + n))))

pub bytes_grow : (f : ℕ → ℕ) (k n : ℕ) → (tally_to f k).bytes ≤ (tally_to f (k + n)).bytes
unfolding tally_to
bytes_grow f k zero = let e : k + 0 ≡ k = omega arith in rw e (omega arith)
bytes_grow f k (suc n) =
    let e : k + suc n ≡ suc (k + n) = omega arith in
    rw e (omega (arith, bytes_grow f k n, bytes_step (f (k + n)) (tally_to f (k + n))))

module _ (f : ℕ → ℕ) (b : Bounded f) (k : ℕ) where
  pub runs_most : (tally_to f k).runs ≤ (tally_of f).runs
  unfolding tally_of
  runs_most =
      elim (dec_lt last k) [
        | yes h ↦ rw (settled f b k (omega arith)) (omega arith)
        | no h ↦ let e : k + (last - k) ≡ last = omega arith in rw e at (runs_grow f k (last - k))
      ]

  pub bytes_most : (tally_to f k).bytes ≤ (tally_of f).bytes
  unfolding tally_of
  bytes_most =
      elim (dec_lt last k) [
        | yes h ↦ rw (settled f b k (omega arith)) (omega arith)
        | no h ↦ let e : k + (last - k) ≡ last = omega arith in rw e at (bytes_grow f k (last - k))
      ]

-- ---- the count of all

pub counted_all : (f : ℕ → ℕ) → Bounded f → (k : ℕ) (t : Tally) → t ≡ tally_to f k → last ≤ k → Counted f t
counted_all f b k t e h =
    let s = e ∙ settled f b k h in
    record { runs = rw s (omega arith); bytes = rw s (omega arith); exact = λ g l. s }

pub counted_some : (f : ℕ → ℕ) → Bounded f → (k : ℕ) (t : Tally) → t ≡ tally_to f k → (t.runs ≤ 256 → t.bytes ≤ 65535 → ⊥) → Counted f t
counted_some f b k t e many =
    record { runs = rw e (runs_most f b k); bytes = rw e (bytes_most f b k); exact = λ g l. absurd (many g l) }
