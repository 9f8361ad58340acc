-- A pile that passes 15 and 16 is its sheets, one after the other.
-- Assumes nothing.
use Prim.Native.Nat.{ℕ, zero, suc, ◌+◌, ◌≤◌, ◌<◌}
use Rattle.std.specs.Prelude.{Bool, List, [], ◌∷◌, ◌≡◌, drop}
use Rattle.std.proofs.Math.Bool.{true, false, cond}
use Rattle.std.proofs.Math.Path.{refl}
use Rattle.std.proofs.Common.{sym, ◌∙◌, length-take, length-drop}
use native.Mathlib.Omega.{arith}
use Rattle.std.proofs.Math.Decide.{dec_lt, ℕ_discrete}
use Rattle.std.proofs.Math.ListN.{length}
use Rattle.facts.specs.Fact.{Fact, test, Holds, ◌≤?◌, ◌≡?◌}
use Rattle.facts.specs.FactLaws.{holds, fails_not, passes, fails}
use Rattle.facts.specs.Rules.{Rules, answer, run}
use Rattle.facts.specs.RulesLaws.{by_test}
use Rattle.words.specs.Le.{le}
use Rattle.answers.specs.declared.Identity.{Identity}
use Rattle.sheet.specs.Sheet.{sheet_identity, sheet_fits, same_identity}
use Rattle.fold_pile.specs.Pile.{lies, sheet_at, after, sheets_from, sheets, sheet_rules, pile_identity, pile_rules, number_of}
use Rattle.fold_pile.specs.Pile.{sheets_number, pile_number, sheet_number, Piled, sheets_fit, pile_fits}
use Rattle.fold_pile.specs.SheetsLaws.{from_some, from_none}

-- ---- one sheet after the other

module _ (p : List ℕ) (first : Identity) (at n : ℕ) where
  abbrev here : ℕ
  here = number_of (sheet_rules p first at (suc n) (answer 0))

  pub at_end_lem : at ≡ length p → here ≡ 0
  unfolding sheet_rules run
  at_end_lem e = rw (passes (at ≡? length p) e)

  pub not_there : (at ≡ length p → ⊥) → (Holds (lies p at) → ⊥) → here ≡ 15
  unfolding sheet_rules run
  not_there e l = rw (fails (at ≡? length p) e, fails (lies p at) l)

  -- where it is there, its own number, and what follows where that is 0
  pub bad_sheet : (at ≡ length p → ⊥) → Holds (lies p at) → (v : ℕ) → v ≡ sheet_number first (sheet_at p at) → (v ≡ 0 → ⊥) → here ≡ v
  unfolding sheet_rules run sheet_number
  bad_sheet e l v is bad =
      rw (fails (at ≡? length p) e, passes (lies p at) l)
      (by_test (λ (x : ℕ). v ≡ x → cond (test (sheet_fits (sheet_at p at))) (cond (test (same_identity (sheet_identity (sheet_at p at)) first))
      (number_of (sheet_rules p first (after p at) n (answer 0))) 16) 15 ≡ v) (sheet_fits (sheet_at p at)) _ _
      (λ h. rw (passes (sheet_fits (sheet_at p at)) h)
      (by_test (λ (x : ℕ). v ≡ x → cond (test (same_identity (sheet_identity (sheet_at p at)) first))
      (number_of (sheet_rules p first (after p at) n (answer 0))) 16 ≡ v) (same_identity (sheet_identity (sheet_at p at)) first) _ _
      (λ g w. absurd (bad w)) (λ g w. rw (fails (same_identity (sheet_identity (sheet_at p at)) first) g) (sym w))))
      (λ h w. rw (fails (sheet_fits (sheet_at p at)) h) (sym w)) is)

  pub good_sheet : (at ≡ length p → ⊥) → Holds (lies p at) → 0 ≡ sheet_number first (sheet_at p at)
      → here ≡ number_of (sheet_rules p first (after p at) n (answer 0))
  unfolding sheet_rules run sheet_number
  good_sheet e l is =
      rw (fails (at ≡? length p) e, passes (lies p at) l)
      (by_test (λ (x : ℕ). 0 ≡ x → cond (test (sheet_fits (sheet_at p at))) (cond (test (same_identity (sheet_identity (sheet_at p at)) first))
      (number_of (sheet_rules p first (after p at) n (answer 0))) 16) 15 ≡ number_of (sheet_rules p first (after p at) n (answer 0)))
      (sheet_fits (sheet_at p at)) _ _
      (λ h. rw (passes (sheet_fits (sheet_at p at)) h)
      (by_test (λ (x : ℕ). 0 ≡ x → cond (test (same_identity (sheet_identity (sheet_at p at)) first))
      (number_of (sheet_rules p first (after p at) n (answer 0))) 16 ≡ number_of (sheet_rules p first (after p at) n (answer 0)))
      (same_identity (sheet_identity (sheet_at p at)) first) _ _
      (λ g w. rw (passes (same_identity (sheet_identity (sheet_at p at)) first) g)) (λ g w. absurd (omega arith))))
      (λ h w. absurd (omega arith)) is)

  -- backwards
  pub sheet_passed : (at ≡ length p → ⊥) → here ≡ 0
      → Holds (lies p at) × Holds (sheet_fits (sheet_at p at)) × Holds (same_identity (sheet_identity (sheet_at p at)) first)
      × (number_of (sheet_rules p first (after p at) n (answer 0)) ≡ 0)
  unfolding sheet_rules run
  sheet_passed e h =
      by_test (λ (x : ℕ). x ≡ 0 → Got) (lies p at) _ _
      (λ l. by_test (λ (x : ℕ). x ≡ 0 → Got) (sheet_fits (sheet_at p at)) _ _
      (λ f. by_test (λ (x : ℕ). x ≡ 0 → Got) (same_identity (sheet_identity (sheet_at p at)) first) _ _
      (λ s z. (l, f, s, z)) (λ s z. absurd (omega arith))) (λ f z. absurd (omega arith))) (λ l z. absurd (omega arith))
      (rw (fails (at ≡? length p) e) at h)
    where
      Got : Type 0
      Got = Holds (lies p at) × Holds (sheet_fits (sheet_at p at)) × Holds (same_identity (sheet_identity (sheet_at p at)) first)
          × (number_of (sheet_rules p first (after p at) n (answer 0)) ≡ 0)

-- ---- the walk of `check_sheets`

-- the sheets ss are left, of which the first one's length stands at `at`
pub record Judging (p : List ℕ) (first : Identity) (at : ℕ) (ss : List (List ℕ)) : Type 0 where
  pub n : ℕ
  pub enough : length p ≤ at + n
  pub within : at ≤ length p
  pub left : sheets_from p at n ≡ ss
  pub same : sheets_number p first ≡ number_of (sheet_rules p first at n (answer 0))

pub judging_start : (p : List ℕ) (first : Identity) → Judging p first 0 (sheets p)
unfolding sheets_number sheets
judging_start p first = record { n = length p; enough = omega arith; within = omega arith; left = refl; same = refl }

module _ (p : List ℕ) (first : Identity) (at : ℕ) where
  pub judging_end : (j : Judging p first at []) → at ≡ length p → sheets_number p first ≡ 0
  unfolding sheet_rules run
  judging_end j e = go j.n j.same
    where
      go : (n : ℕ) → sheets_number p first ≡ number_of (sheet_rules p first at n (answer 0)) → sheets_number p first ≡ 0
      go zero same = same
      go (suc n) same = same ∙ at_end_lem p first at n e

  pub judging_not : (j : Judging p first at []) → at < length p → sheets_number p first ≡ 15
  judging_not j h = go j.n j.enough j.left j.same
    where
      go : (n : ℕ) → length p ≤ at + n → sheets_from p at n ≡ [] → sheets_number p first ≡ number_of (sheet_rules p first at n (answer 0))
          → sheets_number p first ≡ 15
      go zero enough left same = absurd (omega arith)
      go (suc n) enough left same = same ∙ not_there p first at n (λ e. omega arith) (from_none p (suc n) at left enough)

  module _ (s : List ℕ) (ss : List (List ℕ)) (j : Judging p first at (s ∷ ss)) where
    -- what is left after it
    go_on : (Q : Type 0) → ((m : ℕ) → length p ≤ at + suc m → Holds (lies p at) → s ≡ sheet_at p at → sheets_from p (after p at) m ≡ ss
        → sheets_number p first ≡ number_of (sheet_rules p first at (suc m) (answer 0)) → Q) → Q
    go_on Q f = go j.n j.enough j.left j.same
      where
        go : (n : ℕ) → length p ≤ at + n → sheets_from p at n ≡ s ∷ ss
            → sheets_number p first ≡ number_of (sheet_rules p first at n (answer 0)) → Q
        go n enough left same =
            let (m, e, l, w, r) = from_some p n at s ss left in
            f m (rw e at enough) l w r (rw e at same)

    pub judging_bad : (v : ℕ) → v ≡ sheet_number first s → (v ≡ 0 → ⊥) → sheets_number p first ≡ v
    judging_bad v is bad = go_on _ (λ m enough l w r same. same ∙ bad_sheet p first at m (λ z. omega arith) l v (rw w at is) bad)

    pub judging_next : 0 ≡ sheet_number first s → Judging p first (at + (4 + length s)) ss
    judging_next is =
        go_on _
        (λ m enough l w r same.
        let long : at + (4 + length s) ≡ after p at =
        rw w (omega (arith, length-take (le 4 p at) (drop (at + 4) p), length-drop (at + 4) p)) in
        rw long
        (record {
          n = m;
          enough = omega arith;
          within = l.1;
          left = r;
          same = same ∙ good_sheet p first at m (λ z. omega arith) l (rw w at is);
        }))

-- ---- the pile

module _ (p : List ℕ) where
  -- the first step of the walk
  first_step : (P : ℕ → Type 0) → 1 ≤ length p → ((n : ℕ) → P (number_of (sheet_rules p (pile_identity p) 0 (suc n) (answer 0))))
      → P (sheets_number p (pile_identity p))
  unfolding sheets_number
  first_step P some f = go (length p) some
    where
      go : (n : ℕ) → 1 ≤ n → P (number_of (sheet_rules p (pile_identity p) 0 n (answer 0)))
      go zero h = absurd (omega arith)
      go (suc n) h = f n

  pub pile_on : 1 ≤ length p → pile_number p ≡ sheets_number p (pile_identity p)
  unfolding pile_number pile_rules sheets_number run
  pile_on some = rw (passes (1 ≤? length p) some)

  pile_none : (1 ≤ length p → ⊥) → pile_number p ≡ 15
  unfolding pile_number pile_rules run
  pile_none h = rw (fails (1 ≤? length p) h)

  pub pile_not : (Holds (lies p 0) → ⊥) → pile_number p ≡ 15
  pile_not l =
      elim (dec_lt 0 (length p)) [
        | yes some ↦ pile_on some
            ∙ first_step (λ (x : ℕ). x ≡ 15) some (λ n. not_there p (pile_identity p) 0 n (λ e. omega arith) l)
        | no h ↦ pile_none h
      ]

  pub pile_unfit : Holds (lies p 0) → (Holds (sheet_fits (sheet_at p 0)) → ⊥) → pile_number p ≡ 15
  unfolding sheet_number run
  pile_unfit l bad =
      let is : 15 ≡ sheet_number (pile_identity p) (sheet_at p 0) = rw (fails (sheet_fits (sheet_at p 0)) bad) in
      pile_on (omega arith)
      ∙ first_step (λ (x : ℕ). x ≡ 15) (omega arith)
      (λ n. bad_sheet p (pile_identity p) 0 n (λ e. omega arith) l 15 is (λ e. omega arith))

-- ---- a pile that passes

abbrev pub Named : Identity → List (List ℕ) → Type 0
Named first [] = 1 ≤ 1
Named first (s ∷ ss) = Holds (same_identity (sheet_identity s) first) × Named first ss

module _ (p : List ℕ) (first : Identity) where
  piled_from : (n at : ℕ) → at ≤ length p → length p ≤ at + n → number_of (sheet_rules p first at n (answer 0)) ≡ 0
      → Piled p at (sheets_from p at n) × Named first (sheets_from p at n)
  unfolding sheets_from
  piled_from zero at a b e = (omega arith, omega arith)
  piled_from (suc n) at a b e =
      elim (ℕ_discrete at (length p)) [
        | yes z ↦ rw (fails (lies p at) (λ l. omega arith)) (z, omega arith)
        | no z ↦
            let (l, f, s, r) = sheet_passed p first at n z e in
            let (d, ds) = piled_from n (after p at) l.1 (omega arith) r in
            rw (passes (lies p at) l) ((refl, l, f, d), (s, ds))
      ]

module _ (p : List ℕ) (ok : pile_number p ≡ 0) where
  some_byte : 1 ≤ length p
  some_byte = elim (dec_lt 0 (length p)) [ yes h ↦ h | no h ↦ absurd (omega (arith, pile_none p h)) ]

  all_passed : Piled p 0 (sheets p) × Named (pile_identity p) (sheets p)
  unfolding sheets sheets_number
  all_passed = piled_from p (pile_identity p) (length p) 0 (omega arith) (omega arith) (sym (pile_on p some_byte) ∙ ok)

  -- each of its sheets is right, and they are the whole of it
  pub is_piled : Piled p 0 (sheets p)
  is_piled = all_passed.0

  -- and each has the first one's identity
  pub is_named : Named (pile_identity p) (sheets p)
  is_named = all_passed.1

  -- the first of them is right
  pub first_there : Holds (lies p 0) × Holds (sheet_fits (sheet_at p 0))
  first_there = go (sheets p) is_piled
    where
      go : (ss : List (List ℕ)) → Piled p 0 ss → Holds (lies p 0) × Holds (sheet_fits (sheet_at p 0))
      go [] d = absurd (omega (arith, some_byte))
      go (s ∷ ss) d = (d.1, rw d.0 at d.2)

-- ---- 15 alone

sheets_piled : (p : List ℕ) (n at : ℕ) → Holds (sheets_fit p at (sheets_from p at n)) → Piled p at (sheets_from p at n)
unfolding sheets_fit sheets_from
sheets_piled p zero at h = h
sheets_piled p (suc n) at h = go (test (lies p at)) (sheets_from p (after p at) n) (sheets_piled p n (after p at)) h
  where
    go : (b : Bool) (ss : List (List ℕ)) → (Holds (sheets_fit p (after p at) ss) → Piled p (after p at) ss)
        → Holds (sheets_fit p at (cond b (sheet_at p at ∷ ss) []))
        → Piled p at (cond b (sheet_at p at ∷ ss) [])
    go true ss on k = (refl, k.0, k.1.0, on k.1.1)
    go false ss on k = k

sheets_fitting : (p : List ℕ) (at : ℕ) (ss : List (List ℕ)) → Piled p at ss → Holds (sheets_fit p at ss)
unfolding sheets_fit
sheets_fitting p at [] d = d
sheets_fitting p at (s ∷ ss) d = (d.1, (d.2, sheets_fitting p (after p at) ss d.3))

-- what `Pile` keeps, and what is known by it
pub pile_fitting : (p : List ℕ) → Piled p 0 (sheets p) → test (pile_fits p) ≡ true
pile_fitting p d = passes (pile_fits p) (sheets_fitting p 0 (sheets p) d)

pub piled_of : (p : List ℕ) → test (pile_fits p) ≡ true → Piled p 0 (sheets p)
unfolding sheets
piled_of p e = sheets_piled p (length p) 0 (holds (pile_fits p) e)

-- an empty pile has no identity, and the number of each of its parts is 0
pub no_identity : (p : List ℕ) → 0 ≡ length p → pile_identity p ≡ record { image = 0; revision = 0; extended = 0 }
unfolding le
no_identity [] e = refl
no_identity (x ∷ p) e = absurd (omega arith)

-- ---- 15 and 16 go before t

module _ {A : Type 0} (refuse : ℕ → ℕ → A) (p : List ℕ) (t : Rules A) where
  rules_then : (first : Identity) (n at : ℕ) → number_of (sheet_rules p first at n (answer 0)) ≡ 0
      → run refuse (sheet_rules p first at n t) ≡ run refuse t
  unfolding sheet_rules run
  rules_then first zero at e = refl
  rules_then first (suc n) at e =
      elim (ℕ_discrete at (length p)) [
        | yes z ↦ rw (passes (at ≡? length p) z)
        | no z ↦
            let (l, f, s, r) = sheet_passed p first at n z e in
            rw (
              fails (at ≡? length p) z,
              passes (lies p at) l,
              passes (sheet_fits (sheet_at p at)) f,
              passes (same_identity (sheet_identity (sheet_at p at)) first) s,
            ) (rules_then first n (after p at) r)
      ]

  rules_not : (first : Identity) (n at : ℕ) → (number_of (sheet_rules p first at n (answer 0)) ≡ 0 → ⊥)
      → run refuse (sheet_rules p first at n t) ≡ refuse (number_of (sheet_rules p first at n (answer 0))) 0
  unfolding sheet_rules run
  rules_not first zero at e = absurd (e refl)
  rules_not first (suc n) at e =
      by_both (at ≡? length p) (λ (x : A) (y : ℕ). (y ≡ 0 → ⊥) → x ≡ refuse y 0) _ _ _ _ (λ h bad. absurd (bad refl))
      (λ h. by_both (lies p at) (λ (x : A) (y : ℕ). (y ≡ 0 → ⊥) → x ≡ refuse y 0) _ _ _ _
      (λ l. by_both (sheet_fits (sheet_at p at)) (λ (x : A) (y : ℕ). (y ≡ 0 → ⊥) → x ≡ refuse y 0) _ _ _ _
      (λ f. by_both (same_identity (sheet_identity (sheet_at p at)) first) (λ (x : A) (y : ℕ). (y ≡ 0 → ⊥) → x ≡ refuse y 0) _ _ _ _
      (λ s. rules_not first n (after p at)) (λ s bad. refl)) (λ f bad. refl)) (λ l bad. refl)) e
    where
      by_both : (q : Fact) (R : A → ℕ → Type 0) (x y : A) (v w : ℕ) → (Holds q → R x v) → ((Holds q → ⊥) → R y w)
          → R (cond (test q) x y) (cond (test q) v w)
      by_both q R x y v w f g = go (test q) refl
        where
          go : (b : Bool) → test q ≡ b → R (cond b x y) (cond b v w)
          go true e = f (holds q e)
          go false e = g (fails_not q e)

  pub pile_then : pile_number p ≡ 0 → run refuse (pile_rules p t) ≡ run refuse t
  unfolding pile_rules sheets_number run
  pile_then ok =
      rw (passes (1 ≤? length p) (some_byte p ok))
      (rules_then (pile_identity p) (length p) 0 (sym (pile_on p (some_byte p ok)) ∙ ok))

  empty_refused : (1 ≤ length p → ⊥) → run refuse (pile_rules p t) ≡ refuse 15 0
  unfolding pile_rules run
  empty_refused h = rw (fails (1 ≤? length p) h)

  some_refused : 1 ≤ length p → (sheets_number p (pile_identity p) ≡ 0 → ⊥)
      → run refuse (pile_rules p t) ≡ refuse (sheets_number p (pile_identity p)) 0
  unfolding pile_rules run sheets_number
  some_refused h bad = rw (passes (1 ≤? length p) h) (rules_not (pile_identity p) (length p) 0 bad)

  pub pile_refused : (pile_number p ≡ 0 → ⊥) → run refuse (pile_rules p t) ≡ refuse (pile_number p) 0
  pile_refused bad = elim (dec_lt 0 (length p)) [ yes h ↦ more h | no h ↦ rw (pile_none p h) (none h) ]
    where
      none : (1 ≤ length p → ⊥) → run refuse (pile_rules p t) ≡ refuse 15 0
      none h = empty_refused h

      more : 1 ≤ length p → run refuse (pile_rules p t) ≡ refuse (pile_number p) 0
      more h = rw (pile_on p h) (some_refused h (λ z. bad (pile_on p h ∙ z)))
