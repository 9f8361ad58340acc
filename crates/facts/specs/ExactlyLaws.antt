-- Rules give exactly the refusal of the first that isn't passed.
-- Assumes nothing.
use Rattle.std.specs.Prelude.{ℕ, ◌<◌, Bool, cond, ◌&&◌, ◌⊎◌, ◌≡◌, leb, true, false, refl, ltb}
use Rattle.std.proofs.Common.{inl, inr, sym, ap, ◌∙◌, arith, leb-true, ltb-true, ltb-false, lt-ltb, le-ltb}
use Rattle.facts.specs.Fact.{test, Holds}
use Rattle.facts.specs.FactLaws.{holds, fails_not, passes, fails}
use Rattle.facts.specs.First.{first_fault}
use Rattle.facts.specs.FirstLaws.{first, is_first, none_first}
use Rattle.facts.specs.Rules.{Rules, answer, choose, pass, rule, run}
use Rattle.facts.specs.RulesLaws.{Passed, no_zero, and_left, and_right}
use Rattle.facts.specs.Exactly.{Fails, Somewhere, Exact}

module _ {A : Type 0} where
  -- every answer of these rules has the number 0
  abbrev pub Accepts : (A → ℕ) → Rules A → Type 0
  Accepts number (answer a) = number a ≡ 0
  Accepts number (rule n p t) = Accepts number t
  Accepts number (pass n p m t) = Accepts number t
  Accepts number (choose p s t) = Accepts number s × Accepts number t

  -- whether none of them is of entries
  abbrev pub entryless : Rules A → Bool
  entryless (answer a) = true
  entryless (rule n p t) = entryless t
  entryless (pass n p m t) = false
  entryless (choose p s t) = entryless s && entryless t

  -- what has passed every rule has the number 0
  passed_zero : (number : A → ℕ) (t : Rules A) → Accepts number t → (r : A) → Passed t r → number r ≡ 0
  passed_zero number (answer a) ok r e = ap number e ∙ ok
  passed_zero number (rule n p t) ok r (h, more) = passed_zero number t ok r more
  passed_zero number (pass n p m t) ok r (h, more) = passed_zero number t ok r more
  passed_zero number (choose p s t) ok r (inl (h, more)) = passed_zero number s ok.0 r more
  passed_zero number (choose p s t) ok r (inr (h, more)) = passed_zero number t ok.1 r more

  -- no rule that fails has the number 0
  fails_zero : (t : Rules A) → no_zero t ≡ true → (k i : ℕ) → Fails t k i → k ≡ 0 → ⊥
  fails_zero (answer a) ok k i h z = h
  fails_zero (rule n p t) ok k i (inl (bad, e, f)) z = omega (arith, leb-true 1 n (and_left (leb 1 n) (no_zero t) ok))
  fails_zero (rule n p t) ok k i (inr (good, more)) z = fails_zero t (and_right (leb 1 n) (no_zero t) ok) k i more z
  fails_zero (pass n p m t) ok k i (inl (l, e, below, bad)) z = omega (arith, leb-true 1 n (and_left (leb 1 n) (no_zero t) ok))
  fails_zero (pass n p m t) ok k i (inr (all, more)) z = fails_zero t (and_right (leb 1 n) (no_zero t) ok) k i more z
  fails_zero (choose p s t) ok k i (inl (h, more)) z = fails_zero s (and_left (no_zero s) (no_zero t) ok) k i more z
  fails_zero (choose p s t) ok k i (inr (h, more)) z = fails_zero t (and_right (no_zero s) (no_zero t) ok) k i more z

  -- where none is of entries the index is 0
  pub fails_first : (t : Rules A) → entryless t ≡ true → (k i : ℕ) → Fails t k i → i ≡ 0
  fails_first (answer a) ok k i h = absurd h
  fails_first (rule n p t) ok k i (inl (bad, e, f)) = f
  fails_first (rule n p t) ok k i (inr (good, more)) = fails_first t ok k i more
  fails_first (pass n p m t) ok k i h = let z : ◌≡◌ {A = ℕ} 0 1 = cc in absurd (omega arith)
  fails_first (choose p s t) ok k i (inl (h, more)) = fails_first s (and_left (entryless s) (entryless t) ok) k i more
  fails_first (choose p s t) ok k i (inr (h, more)) = fails_first t (and_right (entryless s) (entryless t) ok) k i more

module _ {A : Type 0} (refuse : ℕ → ℕ → A) where
  -- where a rule is the first that isn't passed, the answer is its refusal
  pub run_fails : (t : Rules A) (k i : ℕ) → Fails t k i → run refuse t ≡ refuse k i
  unfolding run
  run_fails (answer a) k i h = absurd h
  run_fails (rule n p t) k i (inl (bad, e, f)) = rw (fails p bad, e, f)
  run_fails (rule n p t) k i (inr (good, more)) = rw (passes p good) (run_fails t k i more)
  run_fails (pass n p m t) k i (inl (l, e, below, bad)) =
      let at : i ≡ first_fault p m = is_first (record { within = omega arith; clear = below; fault = λ _. bad }) in
      rw (← at, lt-ltb i m l, e)
  run_fails (pass n p m t) k i (inr (all, more)) = rw (le-ltb (first_fault p m) m (none_first p m all)) (run_fails t k i more)
  run_fails (choose p s t) k i (inl (good, more)) = rw (passes p good) (run_fails s k i more)
  run_fails (choose p s t) k i (inr (bad, more)) = rw (fails p bad) (run_fails t k i more)

  -- what these rules come to: the refusal of the first that isn't passed, or all are
  abbrev Outcome : Rules A → A → Type 0
  Outcome t r = ((k : ℕ) × (i : ℕ) × Fails t k i × (r ≡ refuse k i)) ⊎ Passed t r

  pub outcome : (t : Rules A) → Outcome t (run refuse t)
  unfolding run
  outcome (answer a) = inr refl
  outcome (rule n p t) = go (test p) refl (outcome t)
    where
      go : (b : Bool) → test p ≡ b → Outcome t (run refuse t) → Outcome (rule n p t) (cond b (run refuse t) (refuse n 0))
      go true e (inl (k, i, h, is)) = inl (k, i, inr (holds p e, h), is)
      go true e (inr h) = inr (holds p e, h)
      go false e more = inl (n, 0, inl (fails_not p e, refl, refl), refl)
  outcome (pass n p m t) = go (ltb (first_fault p m) m) refl (outcome t)
    where
      all : ltb (first_fault p m) m ≡ false → (j : ℕ) → j < m → Holds (p j)
      all e j h = (first p m).clear j (omega (arith, ltb-false (first_fault p m) m e))

      go : (b : Bool) → ltb (first_fault p m) m ≡ b → Outcome t (run refuse t)
          → Outcome (pass n p m t) (cond b (refuse n (first_fault p m)) (run refuse t))
      go true e more =
          let l = ltb-true (first_fault p m) m e in
          inl (n, first_fault p m, inl (l, refl, (first p m).clear, (first p m).fault l), refl)
      go false e (inl (k, i, h, is)) = inl (k, i, inr (all e, h), is)
      go false e (inr h) = inr (all e, h)
  outcome (choose p s t) = go (test p) refl (outcome s) (outcome t)
    where
      go : (b : Bool) → test p ≡ b → Outcome s (run refuse s) → Outcome t (run refuse t)
          → Outcome (choose p s t) (cond b (run refuse s) (run refuse t))
      go true e (inl (k, i, h, is)) other = inl (k, i, inl (holds p e, h), is)
      go true e (inr h) other = inr (inl (holds p e, h))
      go false e one (inl (k, i, h, is)) = inl (k, i, inr (fails_not p e, h), is)
      go false e one (inr h) = inr (inr (fails_not p e, h))

  module _ (number index : A → ℕ) (of_number : (k i : ℕ) → number (refuse k i) ≡ k) (t : Rules A)
      (of-index : (k i : ℕ) → Fails t k i → index (refuse k i) ≡ i) (accepts : Accepts number t) (ok : no_zero t ≡ true) where
    -- so the answer goes by the first that isn't passed
    pub exact : Exact (Fails t) (number (run refuse t)) (index (run refuse t))
    exact =
        record {
          refused = λ bad. names bad (outcome t);
          told = λ k i h.
              let e = run_fails t k i h in
              (ap number e ∙ of_number k i, ap index e ∙ of-index k i h);
          none = λ z k i h. fails_zero t ok k i h (sym (ap number (run_fails t k i h) ∙ of_number k i) ∙ z);
        }
      where
        names : (number (run refuse t) ≡ 0 → ⊥) → Outcome t (run refuse t) → Fails t (number (run refuse t)) (index (run refuse t))
        names bad (inl (k, i, h, is)) = rw (is, of_number k i, of-index k i h) h
        names bad (inr h) = absurd (bad (passed_zero number t accepts (run refuse t) h))

-- the same of the number alone
pub somewhere : {F : ℕ → ℕ → Type 0} {number index : ℕ} → Exact F number index → Exact (Somewhere F) number 0
somewhere {F} {number} {index} e =
    record {
      refused = λ bad. (refl, (index, e.refused bad));
      told = λ k i h. ((e.told k h.1.0 h.1.1).0, sym h.0);
      none = λ z k i h. e.none z k h.1.0 h.1.1;
    }
