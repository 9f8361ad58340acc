-- The count before each run.
-- Assumes nothing.
use Prim.Native.Nat.{ℕ, zero, suc, ◌+◌, ◌-◌, ◌≤◌, ◌<◌}
use Rattle.std.specs.Prelude.{List, ◌≡◌, length, set}
use Rattle.std.proofs.Common.{ap, ◌∙◌, add-one, get_or-set_same, get_or-set_other}
use Rattle.std.proofs.Math.Path.{refl}
use native.Mathlib.Omega.{arith}
use Rattle.std.proofs.Math.Decide.{dec_lt, ℕ_discrete}
use Rattle.fold_cells.specs.Cells.{Unset}
use Rattle.fold_tally.specs.declared.Tally.{Tally}
use Rattle.fold_tally.specs.Tally.{ended, stepped, tally_to}
use Rattle.fold_tally.specs.TallyLaws.{quiet}
use Rattle.fold_words.specs.Words.{Filled}
use Rattle.fold_ranks.specs.Ranks.{starts, sizes, ends, Rising, sum_to, Summed, Whole}

-- ---- the walks

pub record Climbing (xs : List ℕ) (i top free : ℕ) : Type 0 where
  pub rising : Rising xs i top
  pub passed : (j : ℕ) → j < i → ends xs j < free

pub climb_start : (xs : List ℕ) (top : ℕ) → Climbing xs 0 top 0
climb_start xs top =
    record {
      rising = record { apart = λ i j a b. absurd (omega arith); some = λ i a. absurd (omega arith); low = λ i a. absurd (omega arith); high = λ i a. absurd (omega arith) };
      passed = λ j a. absurd (omega arith);
    }

pub climb_next : (xs : List ℕ) (i top free : ℕ) → Climbing xs i top free → free ≤ starts xs i → 1 ≤ sizes xs i → starts xs i ≤ top
    → ends xs i < 4295032831 → Climbing xs (i + 1) top (starts xs i + sizes xs i + 1)
climb_next xs i top free c h some low high =
    record {
      rising = record {
        apart = λ a b l g. elim (ℕ_discrete b i) [
          | yes e ↦ rw e (omega (arith, c.passed a (omega arith)))
          | no e ↦ c.rising.apart a b l (omega arith)
        ];
        some = λ a g. elim (ℕ_discrete a i) [ yes e ↦ rw e some | no e ↦ c.rising.some a (omega arith) ];
        low = λ a g. elim (ℕ_discrete a i) [ yes e ↦ rw e low | no e ↦ c.rising.low a (omega arith) ];
        high = λ a g. elim (ℕ_discrete a i) [ yes e ↦ rw e high | no e ↦ c.rising.high a (omega arith) ];
      };
      passed = λ j l. elim (ℕ_discrete j i) [ yes e ↦ rw e (omega arith) | no e ↦ omega (arith, c.passed j (omega arith)) ];
    }

pub sum_none : (xs : List ℕ) → sum_to xs 0 ≡ 0
unfolding sum_to
sum_none xs = refl

pub sum_one : (xs : List ℕ) (i : ℕ) → sum_to xs (i + 1) ≡ sum_to xs i + sizes xs i
unfolding sum_to
sum_one xs i = rw add-one

sum_up : (xs : List ℕ) (i n : ℕ) → sum_to xs i ≤ sum_to xs (i + n)
unfolding sum_to
sum_up xs i zero = let e : i + 0 ≡ i = omega arith in rw e (omega arith)
sum_up xs i (suc n) = let e : i + suc n ≡ suc (i + n) = omega arith in rw e (omega (arith, sum_up xs i n))

pub sum_within : (xs : List ℕ) (n i : ℕ) → i < n → sum_to xs i + sizes xs i ≤ sum_to xs n
sum_within xs n i h =
    let e : i + 1 + (n - (i + 1)) ≡ n = omega arith in
    omega (arith, sum_one xs i, rw e at (sum_up xs (i + 1) (n - (i + 1))))

pub summed_none : (xs rs : List ℕ) → Summed xs 0 rs
summed_none xs rs = record { each = λ i h. absurd (omega arith) }

pub summed_next : (xs rs : List ℕ) (i v : ℕ) → i < length rs → v ≡ sum_to xs i → Summed xs i rs → Summed xs (i + 1) (set rs i v)
summed_next xs rs i v h e s =
    record {
      each = λ j l. elim (ℕ_discrete j i) [
        | yes d ↦ rw (d, get_or-set_same rs i v 0 h) e
        | no d ↦ get_or-set_other rs i j v 0 d ∙ s.each j (omega arith)
      ];
    }

-- ---- the count

abbrev pub before : ℕ → ℕ → ℕ → Tally
before run runs bytes = record { run = run; runs = runs; bytes = bytes }

-- before the first position that is set
pub still : (f : ℕ → ℕ) (a : ℕ) → Unset f 0 a → tally_to f a ≡ before 0 0 0
unfolding tally_to
still f zero u = refl
still f (suc a) u =
    rw (u.none a (omega arith) (omega arith), still f a (record { up = omega arith; none = λ k g h. u.none k g (omega arith) }))

step_set : (c run runs bytes : ℕ) → (c ≡ 0 → ⊥) → stepped c (before run runs bytes) ≡ before (run + 1) runs (bytes + 1)
step_set zero run runs bytes h = absurd (h refl)
step_set (suc b) run runs bytes h = refl

-- through a run
pub along : (f : ℕ → ℕ) (s i b j : ℕ) → tally_to f s ≡ before 0 i b → Filled f s (s + j) → tally_to f (s + j) ≡ before j i (b + j)
unfolding tally_to
along f s i b zero e x =
    let z : s + 0 ≡ s = omega arith in
    let y : b + 0 ≡ b = omega arith in
    rw (z, y) e
along f s i b (suc j) e x =
    let z : s + suc j ≡ suc (s + j) = omega arith in
    let w : j + 1 ≡ suc j = omega arith in
    let v : b + j + 1 ≡ b + suc j = omega arith in
    rw (
      z,
      along f s i b j e (record { some = λ k g h. x.some k g (omega arith) }),
      step_set (f (s + j)) j i (b + j) (x.some (s + j) (omega arith) (omega arith)),
      w,
      v,
    )

ended_one : (z : ℕ) → 1 ≤ z → ended z ≡ 1
ended_one zero h = absurd (omega arith)
ended_one (suc z) h = refl

-- from a run's end to the next position that is set
pub across : (f : ℕ → ℕ) (e a z i b : ℕ) → tally_to f e ≡ before z i b → 1 ≤ z → e < a → Unset f e a → tally_to f a ≡ before 0 (i + 1) b
across f e a z i b t some h u =
    let n : ℕ = a - e - 1 in
    let d : e + suc n ≡ a = omega arith in
    (rw d at (quiet f e n (rw d u))) ∙ rw (t, ended_one z some)

module _ (f : ℕ → ℕ) (xs : List ℕ) (n top : ℕ) (w : Whole f xs n top) where
  pub filled_run : (i : ℕ) → Filled f (starts xs i) (ends xs i)
  filled_run i = w.sound.word i

  -- what isn't set before the first run
  pub unset_first : (a : ℕ) → a ≤ top → ((j : ℕ) → j < n → a ≤ starts xs j) → Unset f 0 a
  unset_first a low out =
      record { up = omega arith; none = λ k g h. w.none k (record { below = omega arith; none = λ j l c d. omega (arith, out j l) }) }

  -- and after run i
  pub unset_after : (i a : ℕ) → i < n → ends xs i ≤ a → a ≤ top → ((j : ℕ) → i < j → j < n → a ≤ starts xs j) → Unset f (ends xs i) a
  unset_after i a h up low out =
      record {
        up = up;
        none = λ k g l. w.none k
            (record {
              below = omega arith;
              none = λ j m c d. elim (dec_lt i j) [
                | yes q ↦ omega (arith, out j q m)
                | no q ↦ elim (ℕ_discrete j i) [
                  | yes e ↦ absurd (past j k e d g)
                  | no e ↦ omega (arith, w.rising.apart j i (omega arith) h)
                ]
              ];
            });
      }
    where
      past : (j k : ℕ) → j ≡ i → k < ends xs j → ends xs i ≤ k → ⊥
      past j k e d g = let z : ends xs j ≡ ends xs i = ap (ends xs) e in omega arith

  rising_up : (i j : ℕ) → i < j → j < n → starts xs i ≤ starts xs j
  rising_up i j h l = omega (arith, w.rising.apart i j h l)

  pub ranked : (i : ℕ) → i < n → tally_to f (starts xs i) ≡ before 0 i (sum_to xs i)
  unfolding sum_to
  ranked zero h = still f (starts xs 0) (unset_first (starts xs 0) (w.rising.low 0 h) up)
    where
      up : (j : ℕ) → j < n → starts xs 0 ≤ starts xs j
      up j l = elim (ℕ_discrete j 0) [ yes e ↦ rw e (omega arith) | no e ↦ rising_up 0 j (omega arith) l ]
  ranked (suc i) h =
      let e : i + 1 ≡ suc i = omega arith in
      rw e at (across f (ends xs i) (starts xs (suc i)) (sizes xs i) i (sum_to xs i + sizes xs i)
      (along f (starts xs i) i (sum_to xs i) (sizes xs i) (ranked i (omega arith)) (filled_run i))
      (w.rising.some i (omega arith)) (w.rising.apart i (suc i) (omega arith) h)
      (unset_after i (starts xs (suc i)) (omega arith) (omega (arith, w.rising.apart i (suc i) (omega arith) h)) (w.rising.low (suc i) h) up))
    where
      up : (j : ℕ) → i < j → j < n → starts xs (suc i) ≤ starts xs j
      up j g l = elim (ℕ_discrete j (suc i)) [ yes e ↦ rw e (omega arith) | no e ↦ rising_up (suc i) j (omega arith) l ]

  -- at a run's end
  pub at_end_lem : (i : ℕ) → i < n → tally_to f (ends xs i) ≡ before (sizes xs i) i (sum_to xs i + sizes xs i)
  at_end_lem i h = along f (starts xs i) i (sum_to xs i) (sizes xs i) (ranked i h) (filled_run i)

  -- within a run
  pub bytes_in : (i k : ℕ) → i < n → starts xs i ≤ k → k ≤ ends xs i → (tally_to f k).bytes ≡ sum_to xs i + (k - starts xs i)
  bytes_in i k h a b =
      let j : ℕ = k - starts xs i in
      let e : starts xs i + j ≡ k = omega arith in
      let x : Filled f (starts xs i) (starts xs i + j) = record { some = λ l g m. (filled_run i).some l g (omega arith) } in
      ap (λ (t : Tally). t.bytes) (rw e at (along f (starts xs i) i (sum_to xs i) j (ranked i h) x))

  -- the count of all
  pub ranked_all : ((i : ℕ) → i < n → ends xs i < top) → tally_to f top ≡ before 0 n (sum_to xs n)
  unfolding sum_to
  ranked_all below = go n refl
    where
      go : (m : ℕ) → m ≡ n → tally_to f top ≡ before 0 m (sum_to xs m)
      go zero e = still f top (unset_first top (omega arith) (λ j l. absurd (omega arith)))
      go (suc i) e =
          let d : i + 1 ≡ suc i = omega arith in
          let h : i < n = omega arith in
          rw d at (across f (ends xs i) top (sizes xs i) i (sum_to xs i + sizes xs i) (at_end_lem i h) (w.rising.some i h) (below i h)
          (unset_after i top h (omega (arith, below i h)) (omega arith) (λ j g l. absurd (omega arith))))
