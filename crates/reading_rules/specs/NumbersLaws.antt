-- The numbers and indices of every reading are of these kinds, and the bound of rule 1 on both its sides.
-- Assumes nothing.
use Rattle.std.specs.Prelude.{ℕ, ◌+◌, ◌^◌, ◌≤◌, ◌<◌, List, ◌⊎◌, ◌≡◌, refl, length}
use Rattle.std.proofs.Common.{inl, inr, arith}
use Rattle.std.proofs.Math.Decide.{ℕ_discrete}
use Rattle.words.specs.Le.{Bytes}
use Rattle.words.specs.LeLaws.{le_lt}
use Rattle.facts.specs.Fact.{Holds}
use Rattle.facts.specs.FactLaws.{fails}
use Rattle.facts.specs.Rules.{Rules, run}
use Rattle.facts.specs.RulesLaws.{Every, run_every}
use Rattle.volume.specs.Volume.{length_fits}
use Rattle.answers.specs.declared.Reading.{Reading}
use Rattle.reading_rules.specs.Reading.{refusal, accepted, older_accepted, p, n, rules, reading, reading2}
use Rattle.answers.specs.After.{after_reading}
use Rattle.answers.specs.AfterLaws.{after_accepted, after_refused}
use Rattle.reading_rules.specs.Numbers.{None, Numbered, OfEntry}
use Rattle.reading_rules.specs.Edition.{older_28, refused_same, later_same, read2_of}

module _ (xs : List ℕ) where
  whole : (k : ℕ) → k ≤ 14 → Numbered xs None k 0
  whole k h = record { known = inl (inl h); entry = inl refl }

  of_modules : (k : ℕ) → (25 ≤ k) × (k ≤ 27) → Numbered xs None k 0
  of_modules k h = record { known = inl (inr (inr h)); entry = inl refl }

  at_entry : (k : ℕ) → OfEntry k → (i : ℕ) → i < n xs → Numbered xs None k i
  at_entry k h i e = record { known = inl (elim h [ inl l ↦ inl l.1 | inr l ↦ inr (inl l) ]); entry = inr (h, e) }

  pub numbered : Numbered xs None (reading xs).number (reading xs).index
  unfolding reading rules accepted older_accepted
  numbered =
      run_every refusal (λ (r : Reading). Numbered xs None r.number r.index) (rules xs) (
        (λ b. whole 1 (omega arith)),
        λ g. (
          (λ b. whole 2 (omega arith)),
          λ g. (
            (λ b. whole 2 (omega arith)),
            λ g. (
              (λ b. whole 3 (omega arith)),
              λ g. (
                (λ b. whole 4 (omega arith)),
                λ g. (
                  (λ b. whole 5 (omega arith)),
                  λ g. (
                    (λ b. whole 6 (omega arith)),
                    λ g. (
                      (λ o. ((λ b. whole 8 (omega arith)), λ g. whole 0 (omega arith))),
                      λ o. (
                        (λ b. whole 7 (omega arith)),
                        λ g. (
                          (λ b. whole 8 (omega arith)),
                          λ g. (
                            (λ b. whole 9 (omega arith)),
                            λ g. (
                              (λ b. whole 9 (omega arith)),
                              λ g. (
                                (λ b. whole 10 (omega arith)),
                                λ g. (
                                  (λ b. whole 11 (omega arith)),
                                  λ g. (
                                    at_entry 12 (inl (omega arith)),
                                    (
                                      at_entry 22 (inr refl),
                                      (
                                        at_entry 13 (inl (omega arith)),
                                        (
                                          at_entry 14 (inl (omega arith)),
                                          (
                                            (λ b. of_modules 25 (omega arith)),
                                            λ g. (
                                              (λ b. of_modules 26 (omega arith)),
                                              λ g. ((λ b. of_modules 27 (omega arith)), λ g. whole 0 (omega arith)),
                                            ),
                                          ),
                                        ),
                                      ),
                                    ),
                                  ),
                                ),
                              ),
                            ),
                          ),
                        ),
                      ),
                    ),
                  ),
                ),
              ),
            ),
          ),
        ),
      )

  -- a refused reading has its number and index, and zero in every other field
  pub refused_is : ((reading xs).number ≡ 0 → ⊥) → reading xs ≡ refusal (reading xs).number (reading xs).index
  unfolding reading rules accepted older_accepted
  refused_is =
      run_every refusal (λ (r : Reading). (r.number ≡ 0 → ⊥) → r ≡ refusal r.number r.index) (rules xs) (
        (λ b h. refl),
        λ g. (
          (λ b h. refl),
          λ g. (
            (λ b h. refl),
            λ g. (
              (λ b h. refl),
              λ g. (
                (λ b h. refl),
                λ g. (
                  (λ b h. refl),
                  λ g. (
                    (λ b h. refl),
                    λ g. (
                      (λ o. ((λ b h. refl), λ g h. absurd (h refl))),
                      λ o. (
                        (λ b h. refl),
                        λ g. (
                          (λ b h. refl),
                          λ g. (
                            (λ b h. refl),
                            λ g. (
                              (λ b h. refl),
                              λ g. (
                                (λ b h. refl),
                                λ g. (
                                  (λ b h. refl),
                                  λ g. (
                                    (λ i l h. refl),
                                    (
                                      (λ i l h. refl),
                                      (
                                        (λ i l h. refl),
                                        (
                                          (λ i l h. refl),
                                          ((λ b h. refl), λ g. ((λ b h. refl), λ g. ((λ b h. refl), λ g h. absurd (h refl)))),
                                        ),
                                      ),
                                    ),
                                  ),
                                ),
                              ),
                            ),
                          ),
                        ),
                      ),
                    ),
                  ),
                ),
              ),
            ),
          ),
        ),
      )

  -- ---- rule 1: 71 bytes and 2^24 + 1 are refused for their length, 72 and 2^24 are not

  pub length_refused : (length xs ≡ 71) ⊎ (length xs ≡ 16777217) → reading xs ≡ refusal 1 0
  unfolding reading rules run
  length_refused (inl e) = rw (fails (length_fits xs) (λ h. omega (arith, h.0)))
  length_refused (inr e) = rw (fails (length_fits xs) (λ h. omega (arith, h.1)))

  other : (k : ℕ) → 1 < k → k ≡ 1 → ⊥
  other k h e = omega arith

  past_length : Holds (length_fits xs) → (reading xs).number ≡ 1 → ⊥
  unfolding reading rules accepted older_accepted
  past_length h =
      run_every refusal (λ (r : Reading). r.number ≡ 1 → ⊥) (rules xs) (
        (λ b. λ e. b h),
        λ g. (
          (λ b. other 2 (omega arith)),
          λ g. (
            (λ b. other 2 (omega arith)),
            λ g. (
              (λ b. other 3 (omega arith)),
              λ g. (
                (λ b. other 4 (omega arith)),
                λ g. (
                  (λ b. other 5 (omega arith)),
                  λ g. (
                    (λ b. other 6 (omega arith)),
                    λ g. (
                      (λ o. ((λ b. other 8 (omega arith)), λ g e. omega arith)),
                      λ o. (
                        (λ b. other 7 (omega arith)),
                        λ g. (
                          (λ b. other 8 (omega arith)),
                          λ g. (
                            (λ b. other 9 (omega arith)),
                            λ g. (
                              (λ b. other 9 (omega arith)),
                              λ g. (
                                (λ b. other 10 (omega arith)),
                                λ g. (
                                  (λ b. other 11 (omega arith)),
                                  λ g. (
                                    λ i l. other 12 (omega arith),
                                    (
                                      λ i l. other 22 (omega arith),
                                      (
                                        λ i l. other 13 (omega arith),
                                        (
                                          λ i l. other 14 (omega arith),
                                          (
                                            (λ b. other 25 (omega arith)),
                                            λ g. ((λ b. other 26 (omega arith)), λ g. ((λ b. other 27 (omega arith)), λ g e. omega arith)),
                                          ),
                                        ),
                                      ),
                                    ),
                                  ),
                                ),
                              ),
                            ),
                          ),
                        ),
                      ),
                    ),
                  ),
                ),
              ),
            ),
          ),
        ),
      )

  pub length_taken : (length xs ≡ 72) ⊎ (length xs ≡ 16777216) → (reading xs).number ≡ 1 → ⊥
  length_taken (inl e) = past_length (omega arith, omega arith)
  length_taken (inr e) = past_length (omega arith, omega arith)

-- a call that reads first, with the reading r: what holds of the reading's refusals, and of all that its own rules can give, holds of its
-- answer
pub after_every : {A : Type 0} (refuse : ℕ → ℕ → A) (P : A → Type 0) (r : Reading) (t : Rules A)
    → ((r.number ≡ 0 → ⊥) → P (refuse r.number r.index)) → (r.number ≡ 0 → Every refuse P t) → P (after_reading refuse r t)
after_every refuse P r t unread own =
    elim (ℕ_discrete r.number 0) [
      | yes ok ↦ rw (after_accepted refuse r t ok) (run_every refuse P t (own ok))
      | no h ↦ rw (after_refused refuse r t h) (unread h)
    ]

-- a reading's number and index are what any call may answer
pub numbered_own : (xs : List ℕ) (own : ℕ → Type 0) → Numbered xs own (reading xs).number (reading xs).index
numbered_own xs own =
    record {
      known = elim (numbered xs).known [ inl h ↦ inl h | inr h ↦ absurd h ];
      entry = (numbered xs).entry;
    }

-- and where 28 is among its own, those of the reading for edition 2
pub numbered_own2 : (xs : List ℕ) (own : ℕ → Type 0) → own 28 → Numbered xs own (reading2 xs).number (reading2 xs).index
numbered_own2 xs own h =
    elim (ℕ_discrete (reading xs).number 0) [
      | no bad ↦ rw (refused_same xs bad) (numbered_own xs own)
      | yes ok ↦ elim (ℕ_discrete (reading xs).component 0) [
        | yes none ↦ rw (older_28 xs (ok, none)) (record { known = inr h; entry = inl refl })
        | no some ↦ rw (later_same xs (ok, omega (arith, some))) (numbered_own xs own)
      ]
    ]

-- a refused one has its number and index, and zero in every other field
pub refused_is2 : (xs : List ℕ) → ((reading2 xs).number ≡ 0 → ⊥) → reading2 xs ≡ refusal (reading2 xs).number (reading2 xs).index
refused_is2 xs h =
    elim (ℕ_discrete (reading xs).number 0) [
      | no bad ↦ rw (refused_same xs bad) (refused_is xs bad)
      | yes ok ↦ elim (ℕ_discrete (reading xs).component 0) [
        | yes none ↦ rw (older_28 xs (ok, none)) refl
        | no some ↦ absurd (h (read2_of xs (ok, omega (arith, some))))
      ]
    ]

-- and so is a number of its own with index 0
pub own_number : (xs : List ℕ) (own : ℕ → Type 0) (k : ℕ) → own k → Numbered xs own k 0
own_number xs own k h = record { known = inr h; entry = inl refl }

pub own_zero : (xs : List ℕ) (own : ℕ → Type 0) → Numbered xs own 0 0
own_zero xs own = record { known = inl (inl (omega arith)); entry = inl refl }

-- an index is a number of 32 bits
pub index_small : (xs : List ℕ) (own : ℕ → Type 0) (number index : ℕ) → Bytes xs → Numbered xs own number index → index < 2 ^ 32
index_small xs own number index b h =
    elim h.entry [ inl e ↦ omega arith | inr (k, e) ↦ omega (arith, le_lt 4 xs (p xs + 8) b) ]
