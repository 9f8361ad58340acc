-- A check's Bool says whether its claim holds, and what a caller learns of it.
-- Assumes nothing.
use Rattle.std.specs.Prelude.{ℕ, zero, suc, ◌≤◌, ◌<◌, Bool, true, false, not, ◌&&◌, ◌||◌, ◌⊎◌, ◌≡◌, refl, leb, eqb}
use Rattle.std.proofs.Common.{inl, inr, sym, ◌∙◌, leb-true, leb-false, eqb-true, below_more, arith, not-suc-le-zero}
use Rattle.std.proofs.lemmas.Bool.{eqb-false, not-true, not-false}
use Rattle.facts.specs.Fact.{Fact, Holds, Says, Tells, ◌and◌, ◌or◌, ◌≡?◌, ◌≤?◌, all_below, deny, every, test}

says_leb : (a b : ℕ) (r : Bool) → leb a b ≡ r → Says r (a ≤ b)
says_leb a b true e = leb-true a b e
says_leb a b false e = λ h. let k = leb-false a b e in omega arith

says_eqb : (a b : ℕ) (r : Bool) → eqb a b ≡ r → Says r (a ≡ b)
says_eqb a b true e = eqb-true a b e
says_eqb a b false e = eqb-false a b e

says_not : (r : Bool) (P : Type 0) → Says r P → Says (not r) (P → ⊥)
says_not true P p = λ no. no p
says_not false P p = p

-- the Bools of two claims give that of a claim which amounts to both
says_both : (a b : Bool) (P Q R : Type 0) → Says a P → Says b Q → (P → Q → R) → (R → P × Q) → Says (a && b) R
says_both true true P Q R p q f g = f p q
says_both true false P Q R p q f g = λ r. q (g r).1
says_both false b P Q R p q f g = λ r. p (g r).0

says_or : (a b : Bool) (P Q : Type 0) → Says a P → Says b Q → Says (a || b) (P ⊎ Q)
says_or true b P Q p q = inl p
says_or false true P Q p q = inr q
says_or false false P Q p q = λ h. elim h [ inl x ↦ p x | inr y ↦ q y ]

says_every : (k : ℕ) (f : ℕ → Bool) (P : ℕ → Type 0) → ((i : ℕ) → Says (f i) (P i)) → Says (all_below k f) ((i : ℕ) → i < k → P i)
unfolding all_below
says_every zero f P h = λ i l. absurd (not-suc-le-zero l)
says_every (suc k) f P h =
    says_both (all_below k f) (f k) _ _ _ (says_every k f P h) (h k)
    (λ a b i l. below_more P k a b i (omega arith)) (λ g. ((λ i l. g i (omega arith)), g k (omega arith)))

-- the Bool of a check says whether its claim holds
pub says : (p : Fact) → Says (test p) (Holds p)
unfolding test
says (a ≤? b) = says_leb a b (leb a b) refl
says (a ≡? b) = says_eqb a b (eqb a b) refl
says (deny p) = says_not (test p) (Holds p) (says p)
says (p and q) = says_both (test p) (test q) (Holds p) (Holds q) (Holds p × Holds q) (says p) (says q) (λ a b. (a, b)) (λ h. h)
says (p or q) = says_or (test p) (test q) (Holds p) (Holds q) (says p) (says q)
says (every k p) = says_every k (λ i. test (p i)) (λ i. Holds (p i)) (λ i. says (p i))

-- two that say so of one claim are one
pub agree : (a b : Bool) (P : Type 0) → Says a P → Says b P → a ≡ b
agree true true P p q = refl
agree true false P p q = absurd (q p)
agree false true P p q = absurd (p q)
agree false false P p q = refl

-- from the claim to the Bool, and back
pub passes : (p : Fact) → Holds p → test p ≡ true
passes p h = sym (agree true (test p) (Holds p) h (says p))

pub fails : (p : Fact) → (Holds p → ⊥) → test p ≡ false
fails p h = sym (agree false (test p) (Holds p) h (says p))

pub holds : (p : Fact) → test p ≡ true → Holds p
holds p e = rw e at (says p)

pub fails_not : (p : Fact) → test p ≡ false → Holds p → ⊥
fails_not p e = rw e at (says p)

-- checks whose claims amount to each other pass together
pub same_test : (p q : Fact) → (Holds p → Holds q) → (Holds q → Holds p) → test p ≡ test q
same_test p q f g = go (test p) (says p)
  where
    go : (a : Bool) → Says a (Holds p) → a ≡ test q
    go true h = sym (passes q (f h))
    go false h = sym (fails q (λ k. h (g k)))

-- what a caller learns past `if !check(..) { .. }`, and inside it
module _ {r : Bool} {p : Fact} (t : Tells r p) where
  pub is_test : r ≡ test p
  is_test = agree r (test p) (Holds p) t.says (says p)

  pub yes : not r ≡ false → test p ≡ true
  yes e = sym is_test ∙ not-false r e

  pub no : not r ≡ true → test p ≡ false
  no e = sym is_test ∙ not-true r e

  pub granted : not r ≡ false → Holds p
  granted e = holds p (yes e)

  pub refuted : not r ≡ true → Holds p → ⊥
  refuted e = fails_not p (no e)
