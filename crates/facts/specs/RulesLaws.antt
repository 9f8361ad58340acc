-- What rules can give and what they give; the same rules on other bytes.
-- Assumes nothing.
use Rattle.std.specs.Prelude.{ℕ, ◌≤◌, ◌<◌, Bool, cond, ◌&&◌, ◌⊎◌, ◌≡◌, leb, ltb, true, false, refl}
use Rattle.std.proofs.Common.{inl, inr, sym, arith, leb-true, ltb-true, ltb-false, le-ltb}
use Rattle.facts.specs.Fact.{Fact, test, Holds}
use Rattle.facts.specs.FactLaws.{holds, fails_not, passes, fails}
use Rattle.facts.specs.First.{first_fault}
use Rattle.facts.specs.FirstLaws.{first, none_first}
use Rattle.facts.specs.Rules.{Rules, answer, choose, pass, rule, run}

module _ {A : Type 0} where
  -- what holds where r came of passing every rule
  abbrev pub Passed : Rules A → A → Type 0
  Passed (answer a) r = r ≡ a
  Passed (rule k p t) r = Holds p × Passed t r
  Passed (pass k p n t) r = ((i : ℕ) → i < n → Holds (p i)) × Passed t r
  Passed (choose p s t) r = (Holds p × Passed s r) ⊎ ((Holds p → ⊥) × Passed t r)

  -- whether no rule has the number 0
  abbrev pub no_zero : Rules A → Bool
  no_zero (answer a) = true
  no_zero (rule k p t) = leb 1 k && no_zero t
  no_zero (pass k p n t) = leb 1 k && no_zero t
  no_zero (choose p s t) = no_zero s && no_zero t

  -- P holds of the answer and of each refusal that these rules can give
  abbrev pub Every : (ℕ → ℕ → A) → (A → Type 0) → Rules A → Type 0
  Every refuse P (answer a) = P a
  Every refuse P (rule k p t) = ((Holds p → ⊥) → P (refuse k 0)) × (Holds p → Every refuse P t)
  Every refuse P (pass k p n t) = ((i : ℕ) → i < n → P (refuse k i)) × Every refuse P t
  Every refuse P (choose p s t) = (Holds p → Every refuse P s) × ((Holds p → ⊥) → Every refuse P t)

  -- the same rules, on other bytes: they go one way, and their answers are related by R
  abbrev pub Same : (A → A → Type 0) → Rules A → Rules A → Type 0
  Same R (answer a) (answer b) = R a b
  Same R (answer a) (rule l q t) = ⊥
  Same R (answer a) (pass l q m t) = ⊥
  Same R (answer a) (choose q t t') = ⊥
  Same R (rule k p s) (answer b) = ⊥
  Same R (rule k p s) (rule l q t) = (k ≡ l) × (test p ≡ test q) × (Holds p → Same R s t)
  Same R (rule k p s) (pass l q m t) = ⊥
  Same R (rule k p s) (choose q t t') = ⊥
  Same R (pass k p n s) (answer b) = ⊥
  Same R (pass k p n s) (rule l q t) = ⊥
  Same R (pass k p n s) (pass l q m t) = (k ≡ l) × (n ≡ m) × (first_fault p n ≡ first_fault q m) × Same R s t
  Same R (pass k p n s) (choose q t t') = ⊥
  Same R (choose p s s') (answer b) = ⊥
  Same R (choose p s s') (rule l q t) = ⊥
  Same R (choose p s s') (pass l q m t) = ⊥
  Same R (choose p s s') (choose q t t') = (test p ≡ test q) × (Holds p → Same R s t) × ((Holds p → ⊥) → Same R s' t')

pub and_left : (a b : Bool) → (a && b) ≡ true → a ≡ true
and_left true b e = refl
and_left false b e = e

pub and_right : (a b : Bool) → (a && b) ≡ true → b ≡ true
and_right true b e = e
and_right false b e = let z : ◌≡◌ {A = ℕ} 0 1 = cc in absurd (omega arith)

-- a choice has a property that both its answers have
pub by_cond : {A : Type 0} (P : A → Type 0) (b : Bool) (x y : A) → (b ≡ true → P x) → (b ≡ false → P y) → P (cond b x y)
by_cond P true x y f g = f refl
by_cond P false x y f g = g refl

-- the same of a choice by a check
pub by_test : {A : Type 0} (P : A → Type 0) (p : Fact) (x y : A) → (Holds p → P x) → ((Holds p → ⊥) → P y) → P (cond (test p) x y)
by_test P p x y f g = by_cond P (test p) x y (λ e. f (holds p e)) (λ e. g (fails_not p e))

module _ {A : Type 0} (refuse : ℕ → ℕ → A) where
  -- an answer whose number is 0 has passed every rule
  pub passed : (number : A → ℕ) → ((k i : ℕ) → number (refuse k i) ≡ k) → (t : Rules A) → no_zero t ≡ true → number (run refuse t) ≡ 0
      → Passed t (run refuse t)
  unfolding run
  passed number is (answer a) ok e = refl
  passed number is (rule k p t) ok e =
      by_test (λ (r : A). number r ≡ 0 → Holds p × Passed t r) p _ _
      (λ h e. (h, passed number is t (and_right (leb 1 k) (no_zero t) ok) e))
      (λ h e. absurd (omega (arith, is k 0, leb-true 1 k (and_left (leb 1 k) (no_zero t) ok)))) e
  passed number is (pass k p n t) ok e =
      by_cond (λ (r : A). number r ≡ 0 → ((i : ℕ) → i < n → Holds (p i)) × Passed t r) (ltb (first_fault p n) n) _ _
      (λ h e. absurd (omega (arith, is k (first_fault p n), leb-true 1 k (and_left (leb 1 k) (no_zero t) ok))))
      (λ h e. (
        (λ i l. (first p n).clear i (omega (arith, ltb-false (first_fault p n) n h))),
        passed number is t
            (and_right (leb 1 k) (no_zero t) ok) e,
      )) e
  passed number is (choose p s t) ok e =
      by_test (λ (r : A). number r ≡ 0 → (Holds p × Passed s r) ⊎ ((Holds p → ⊥) × Passed t r)) p _ _
      (λ h e. inl (h, passed number is s (and_left (no_zero s) (no_zero t) ok) e))
      (λ h e. inr (h, passed number is t (and_right (no_zero s) (no_zero t) ok) e)) e

  -- what holds of all that the rules can give holds of what they give
  pub run_every : (P : A → Type 0) (t : Rules A) → Every refuse P t → P (run refuse t)
  unfolding run
  run_every P (answer a) h = h
  run_every P (rule k p t) h = by_test P p _ _ (λ e. run_every P t (h.1 e)) (λ e. h.0 e)
  run_every P (pass k p n t) h =
      by_cond P (ltb (first_fault p n) n) _ _ (λ e. h.0 (first_fault p n) (ltb-true (first_fault p n) n e)) (λ e. run_every P t h.1)
  run_every P (choose p s t) h = by_test P p _ _ (λ e. run_every P s (h.0 e)) (λ e. run_every P t (h.1 e))

  -- what has passed every rule is the answer
  pub run_passed : (t : Rules A) (r : A) → Passed t r → run refuse t ≡ r
  unfolding run
  run_passed (answer a) r e = sym e
  run_passed (rule k p t) r h = rw (passes p h.0) (run_passed t r h.1)
  run_passed (pass k p n t) r h =
      let clear : n ≤ first_fault p n = none_first p n h.0 in
      rw (le-ltb (first_fault p n) n clear) (run_passed t r h.1)
  run_passed (choose p s t) r (inl h) = rw (passes p h.0) (run_passed s r h.1)
  run_passed (choose p s t) r (inr h) = rw (fails p h.0) (run_passed t r h.1)

  -- the same rules give related answers
  pub run_same : (R : A → A → Type 0) → ((k i : ℕ) → R (refuse k i) (refuse k i)) → (s t : Rules A) → Same R s t
      → R (run refuse s) (run refuse t)
  unfolding run
  run_same R self (answer a) (answer b) h = h
  run_same R self (answer a) (rule l q t) h = absurd h
  run_same R self (answer a) (pass l q m t) h = absurd h
  run_same R self (answer a) (choose q t t') h = absurd h
  run_same R self (rule k p s) (answer b) h = absurd h
  run_same R self (rule k p s) (rule l q t) (e, f, rest) =
      rw (← e, ← f)
      (by_test (λ (x : A). R x (cond (test p) (run refuse t) (refuse k 0))) p _ _
      (λ h. rw (passes p h) (run_same R self s t (rest h))) (λ h. rw (fails p h) (self k 0)))
  run_same R self (rule k p s) (pass l q m t) h = absurd h
  run_same R self (rule k p s) (choose q t t') h = absurd h
  run_same R self (pass k p n s) (answer b) h = absurd h
  run_same R self (pass k p n s) (rule l q t) h = absurd h
  run_same R self (pass k p n s) (pass l q m t) (e, d, f, rest) =
      rw (← f, ← e, ← d) (both (ltb (first_fault p n) n) (refuse k (first_fault p n)) (run refuse s) (run refuse t)
      (self k (first_fault p n)) (run_same R self s t rest))
    where
      both : (b : Bool) (x y z : A) → R x x → R y z → R (cond b x y) (cond b x z)
      both true x y z f g = f
      both false x y z f g = g
  run_same R self (pass k p n s) (choose q t t') h = absurd h
  run_same R self (choose p s s') (answer b) h = absurd h
  run_same R self (choose p s s') (rule l q t) h = absurd h
  run_same R self (choose p s s') (pass l q m t) h = absurd h
  run_same R self (choose p s s') (choose q t t') (f, then, else) =
      rw (← f)
      (by_test (λ (x : A). R x (cond (test p) (run refuse t) (run refuse t'))) p _ _
      (λ h. rw (passes p h) (run_same R self s t (then h))) (λ h. rw (fails p h) (run_same R self s' t' (else h))))
