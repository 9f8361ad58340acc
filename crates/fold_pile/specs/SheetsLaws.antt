-- The sheets of a pile, each from what follows the one before it.
-- Assumes nothing.
use Rattle.std.specs.Prelude.{ℕ, zero, suc, ◌+◌, ◌≤◌, ◌<◌, cond, List, [], ◌∷◌, ◌≡◌, refl, length, take, drop}
use Rattle.std.proofs.Common.{sym, ap, ◌∙◌, arith, get_or-take, get_or-drop, length-drop}
use Rattle.std.proofs.Math.Seq.{drop-drop}
use Rattle.facts.specs.Fact.{Holds, test}
use Rattle.facts.specs.FactLaws.{passes, fails, same_test}
use Rattle.facts.specs.RulesLaws.{by_test}
use Rattle.words.specs.Le.{le}
use Rattle.words.specs.LeLaws.{le_cong}
use Rattle.sheet.specs.Sheet.{sheet_fits}
use Rattle.fold_pile.specs.Pile.{lies, sheet_at, after, sheets_from, sheets, Piled}

pub le_front : (k n : ℕ) (p : List ℕ) → k ≤ n → le k (take n p) 0 ≡ le k p 0
le_front k n p h = le_cong k (take n p) p 0 (record { same = λ j l. let e : 0 + j ≡ j = omega arith in rw e (get_or-take n p j 0 (omega arith)) })

le_back : (k a at : ℕ) (p : List ℕ) → le k (drop a p) at ≡ le k p (a + at)
unfolding le
le_back zero a at p = refl
le_back (suc k) a at p =
    let e : a + (at + k) ≡ a + at + k = omega arith in
    rw (le_back k a at p, get_or-drop a p (at + k) 0, e)

module _ (p : List ℕ) (a : ℕ) where
  lies_on : (at : ℕ) → Holds (lies (drop a p) at) → Holds (lies p (a + at))
  lies_on at l = (omega (arith, l.0, length-drop a p), omega (arith, l.1, length-drop a p, le_back 4 a at p))

  lies_back : (at : ℕ) → Holds (lies p (a + at)) → Holds (lies (drop a p) at)
  lies_back at l = (omega (arith, l.0, length-drop a p), omega (arith, l.1, length-drop a p, le_back 4 a at p))

  -- the sheets of what follows are those that follow
  from_back : (n at : ℕ) → sheets_from (drop a p) at n ≡ sheets_from p (a + at) n
  unfolding sheets_from
  from_back zero at = refl
  from_back (suc n) at =
      let e : a + (at + 4) ≡ a + at + 4 = omega arith in
      let f : a + (at + 4 + le 4 p (a + at)) ≡ a + at + 4 + le 4 p (a + at) = omega arith in
      rw (same_test (lies (drop a p) at) (lies p (a + at)) (lies_on at) (lies_back at), le_back 4 a at p, drop-drop (at + 4) a p, e, from_back n (at + 4 + le 4 p (a + at)), f)

-- there are no more sheets than bytes
from_enough : (p : List ℕ) (n m at : ℕ) → length p ≤ at + n → length p ≤ at + m → sheets_from p at n ≡ sheets_from p at m
unfolding sheets_from
from_enough p zero zero at g h = refl
from_enough p zero (suc m) at g h = rw (fails (lies p at) (λ l. omega arith))
from_enough p (suc n) zero at g h = rw (fails (lies p at) (λ l. omega arith))
from_enough p (suc n) (suc m) at g h =
    ap (λ (x : List (List ℕ)). cond (test (lies p at)) (sheet_at p at ∷ x) []) (from_enough p n m (after p at) (omega arith) (omega arith))

pub sheets_first : (p : List ℕ) → Holds (lies p 0) → sheets p ≡ sheet_at p 0 ∷ sheets (drop (after p 0) p)
unfolding sheets sheets_from
sheets_first p l =
    let a : ℕ = after p 0 in
    let e : a + 0 ≡ a = omega arith in
    from_enough p (length p) (suc (length p)) 0 (omega arith) (omega arith)
    ∙ rw (passes (lies p 0) l)
    (ap (λ (x : List (List ℕ)). sheet_at p 0 ∷ x)
    (sym (rw e at (from_back p a (length p) 0))
    ∙ from_enough (drop a p) (length p) (length (drop a p)) 0 (omega (arith, length-drop a p)) (omega arith)))

pub sheets_none : (p : List ℕ) → (Holds (lies p 0) → ⊥) → sheets p ≡ []
unfolding sheets sheets_from
sheets_none p l = from_enough p (length p) (suc (length p)) 0 (omega arith) (omega arith) ∙ rw (fails (lies p 0) l)

-- ---- cut off the front

pub no_length : (p : List ℕ) → length p < 4 → sheets p ≡ []
no_length p h = sheets_none p (λ l. omega arith)

module _ (p : List ℕ) (n : ℕ) (is : n ≡ le 4 (take 4 p) 0) where
  is_le : n ≡ le 4 p 0
  is_le = is ∙ le_front 4 4 p (omega arith)

  pub no_sheet : length (drop 4 p) < n → sheets p ≡ []
  no_sheet h = sheets_none p (λ l. omega (arith, is_le, length-drop 4 p))

  pub a_sheet : 4 ≤ length p → n ≤ length (drop 4 p) → sheets p ≡ take n (drop 4 p) ∷ sheets (drop n (drop 4 p))
  a_sheet h l =
      let e : drop n (drop 4 p) ≡ drop (after p 0) p = drop-drop n 4 p ∙ ap (λ (k : ℕ). drop k p) (omega (arith, is_le)) in
      rw e (rw is_le (sheets_first p (omega arith, omega (arith, is_le, length-drop 4 p))))

-- ---- read off the list

pub from_some : (p : List ℕ) (n at : ℕ) (x : List ℕ) (xs : List (List ℕ)) → sheets_from p at n ≡ x ∷ xs
    → (m : ℕ) × (n ≡ suc m) × Holds (lies p at) × (x ≡ sheet_at p at) × (sheets_from p (after p at) m ≡ xs)
unfolding sheets_from
from_some p zero at x xs e = cc
from_some p (suc n) at x xs e =
    by_test (λ (l : List (List ℕ)). l ≡ x ∷ xs
    → (m : ℕ) × (suc n ≡ suc m) × Holds (lies p at) × (x ≡ sheet_at p at) × (sheets_from p (after p at) m ≡ xs)) (lies p at) _ _
    (λ l f. (n, refl, l, cc, cc)) (λ l f. cc) e

pub from_none : (p : List ℕ) (n at : ℕ) → sheets_from p at n ≡ [] → length p ≤ at + n → Holds (lies p at) → ⊥
unfolding sheets_from
from_none p zero at e h l = omega arith
from_none p (suc n) at e h l = let f = rw (passes (lies p at) l) at e in cc

pub first_none : (p : List ℕ) → sheets p ≡ [] → Holds (lies p 0) → ⊥
first_none p e l = let f = sym (sheets_first p l) ∙ e in cc

pub first_some : (p x : List ℕ) (xs : List (List ℕ)) → sheets p ≡ x ∷ xs → Holds (lies p 0) × (x ≡ sheet_at p 0)
unfolding sheets
first_some p x xs e = let (m, f, l, w, r) = from_some p (length p) 0 x xs e in (l, w)

-- ---- the sheets of a pile that passes 15

abbrev pub Fitting : List (List ℕ) → Type 0
Fitting [] = 1 ≤ 1
Fitting (s ∷ ss) = Holds (sheet_fits s) × Fitting ss

pub piled_fitting : (p : List ℕ) (at : ℕ) (ss : List (List ℕ)) → Piled p at ss → Fitting ss
piled_fitting p at [] d = omega arith
piled_fitting p at (s ∷ ss) d = (d.2, piled_fitting p (after p at) ss d.3)
