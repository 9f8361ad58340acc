-- A check of each item, of lists made longer.
-- Assumes nothing.
use Rattle.std.specs.Prelude.{ℕ, zero, suc, ◌<◌, List, [], ◌∷◌, ◌++◌, ◌≡◌, length, take, drop}
use Rattle.std.proofs.Common.{append_assoc, append-nil, inl, inr, ap, arith}
use Rattle.facts.specs.Fact.{Fact, ◌≤?◌, ◌and◌, Holds}
use Rattle.items.specs.declared.Item.{Item}
use Rattle.items.specs.Items.{each, apart, apart_from}

pub each_none : (p : Item → Fact) → Holds (each p [])
unfolding each
each_none p = omega arith

pub each_so : (p q : Item → Fact) (l : List Item) → ((x : Item) → Holds (p x) → Holds (q x)) → Holds (each p l) → Holds (each q l)
unfolding each
each_so p q [] f h = h
each_so p q (x ∷ l) f (h, t) = (f x h, each_so p q l f t)

pub each_both : (p q : Item → Fact) (l : List Item) → Holds (each p l) → Holds (each q l) → Holds (each (λ x. p x and q x) l)
unfolding each
each_both p q [] h k = h
each_both p q (x ∷ l) (h, s) (k, t) = ((h, k), each_both p q l s t)

pub each_join : (p : Item → Fact) (l k : List Item) → Holds (each p l) → Holds (each p k) → Holds (each p (l ++ k))
unfolding each
each_join p [] k h t = t
each_join p (x ∷ l) k (h, s) t = (h, each_join p l k s t)

pub each_fork : (p : Item → Fact) (l k : List Item) → Holds (each p (l ++ k)) → Holds (each p l) × Holds (each p k)
unfolding each
each_fork p [] k h = (omega arith, h)
each_fork p (x ∷ l) k (h, t) = let (a, b) = each_fork p l k t in ((h, a), b)

pub each_more : (p : Item → Fact) (l : List Item) (x : Item) → Holds (each p l) → Holds (p x) → Holds (each p (l ++ (x ∷ [])))
unfolding each
each_more p [] x h k = (k, h)
each_more p (y ∷ l) x (h, t) k = (h, each_more p l x t k)

pub each_last : (p : Item → Fact) (l : List Item) (x : Item) → Holds (each p (l ++ (x ∷ []))) → Holds (each p l) × Holds (p x)
unfolding each
each_last p [] x (h, t) = (t, h)
each_last p (y ∷ l) x (h, t) = let (a, b) = each_last p l x t in ((h, a), b)

-- the next of a list, after i of it
pub take_more : (l : List Item) (i : ℕ) (x : Item) (r : List Item) → drop i l ≡ x ∷ r
    → (take (suc i) l ≡ take i l ++ (x ∷ [])) × (drop (suc i) l ≡ r) × (i < length l)
take_more [] zero x r e = absurd (let z : ◌≡◌ {A = ℕ} 0 1 = cc in omega arith)
take_more [] (suc i) x r e = absurd (let z : ◌≡◌ {A = ℕ} 0 1 = cc in omega arith)
take_more (y ∷ l) zero x r e = (cc, cc, omega arith)
take_more (y ∷ l) (suc i) x r e =
    let (a, b, h) = take_more l i x r e in
    (ap (λ (k : List Item). y ∷ k) a, b, omega arith)

-- two lists after each other
pub apart_join : (before l k : List Item) → Holds (apart_from before l) → Holds (apart_from (before ++ l) k)
    → Holds (apart_from before (l ++ k))
unfolding apart_from
apart_join before [] k h t = rw (append-nil before) at t
apart_join before (x ∷ l) k (h, s) t =
    let e : (before ++ (x ∷ [])) ++ l ≡ before ++ (x ∷ l) = append_assoc before (x ∷ []) l in
    (h, apart_join (before ++ (x ∷ [])) l k s (rw e t))

pub apart_fork : (before l k : List Item) → Holds (apart_from before (l ++ k))
    → Holds (apart_from before l) × Holds (apart_from (before ++ l) k)
unfolding apart_from
apart_fork before [] k t = (omega arith, rw (append-nil before) t)
apart_fork before (x ∷ l) k (h, s) =
    let e : (before ++ (x ∷ [])) ++ l ≡ before ++ (x ∷ l) = append_assoc before (x ∷ []) l in
    let (a, b) = apart_fork (before ++ (x ∷ [])) l k s in
    ((h, a), rw e at b)

-- apartness goes both ways
pub apart_turned : (x y : Item) → Holds (apart y x) → Holds (apart x y)
apart_turned x y (inl h) = inl (h.1, h.0)
apart_turned x y (inr (inl h)) = inr (inr h)
apart_turned x y (inr (inr h)) = inr (inl h)

each_true : (l : List Item) → Holds (each (λ x. 0 ≤? 0) l)
unfolding each
each_true [] = omega arith
each_true (x ∷ l) = (omega arith, each_true l)

-- whatever stands before, each of l is apart from it
pub apart_across : (before l : List Item) → Holds (apart_from before l) → Holds (each (λ x. each (λ y. apart y x) l) before)
unfolding apart_from each
apart_across before [] h = each_true before
apart_across before (y ∷ l) (h, t) =
    each_both (λ x. apart y x) (λ x. each (λ y. apart y x) l) before
    (each_so (apart y) (λ x. apart y x) before (λ x k. k) h)
    (each_last (λ x. each (λ y. apart y x) l) before y (apart_across (before ++ (y ∷ [])) l t)).0
