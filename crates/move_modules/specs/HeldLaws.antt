-- What holds from some item of a list on, and bytes that lie in an item that is looked at.
-- Assumes nothing.
use Prim.{tt}
use Rattle.std.specs.Prelude.{◌≡◌, ℕ, zero, suc, ◌+◌, ◌≤◌, List, [], ◌∷◌, ◌++◌, length, drop, refl}
use Rattle.std.proofs.Common.{inl, inr, sym, arith}
use Rattle.facts.specs.Fact.{Fact, Holds}
use Rattle.words.specs.Le.{Alike}
use Rattle.words.specs.LeLaws.{alike_in}
use Rattle.items.specs.declared.Item.{Item}
use Rattle.items.specs.Items.{each}
use Rattle.items.specs.ItemsLaws.{take_more}
use Rattle.items.specs.Shapes.{Kept}
use Rattle.move_modules.specs.Relocate.{Held}

-- ---- lists

pub drop_join : (l k r : List Item) (i : ℕ) → drop i l ≡ k ++ r → drop (length k + i) l ≡ r
drop_join l [] r i e =
    let n : length {A = Item} [] + i ≡ i = omega arith in
    rw n e
drop_join l (x ∷ k) r i e =
    let n : length k + suc i ≡ length (x ∷ k) + i = omega arith in
    rw n at (drop_join l k r (suc i) (take_more l i x (k ++ r) e).1)

pub each_drop : (p : Item → Fact) (l : List Item) (i : ℕ) → Holds (each p l) → Holds (each p (drop i l))
unfolding each
each_drop p [] zero h = h
each_drop p [] (suc i) h = h
each_drop p (x ∷ l) zero h = h
each_drop p (x ∷ l) (suc i) (h, t) = each_drop p l i t

pub each_here : (p : Item → Fact) (l : List Item) (i : ℕ) (x : Item) (r : List Item) → drop i l ≡ x ∷ r → Holds (each p l) → Holds (p x)
unfolding each
each_here p l i x r e h = let both : Holds (each p (x ∷ r)) = rw e at (each_drop p l i h) in both.0

pub kept_drop : (a b : List ℕ) (l : List Item) (i : ℕ) → Kept a b l → Kept a b (drop i l)
unfolding Kept
kept_drop a b [] zero h = tt
kept_drop a b [] (suc i) h = tt
kept_drop a b (x ∷ l) zero h = h
kept_drop a b (x ∷ l) (suc i) (h, t) = kept_drop a b l i t

pub kept_self : (a : List ℕ) (l : List Item) → Kept a a l
unfolding Kept
kept_self a [] = tt
kept_self a (x ∷ l) = ((λ h. record { same = λ j k. refl }), kept_self a l)

pub alike_sym : {a b : List ℕ} {p k : ℕ} → Alike a b p k → Alike b a p k
alike_sym h = record { same = λ j l. sym (h.same j l) }

pub kept_sym : (a b : List ℕ) (l : List Item) → Kept a b l → Kept b a l
unfolding Kept
kept_sym a b [] h = tt
kept_sym a b (x ∷ l) (h, t) = ((λ e. alike_sym (h e)), kept_sym a b l t)

-- ---- bytes that lie in an item that is looked at

pub held_alike : (a b : List ℕ) (l : List Item) (p k : ℕ) → Kept a b l → Held l p k → Alike a b p k
unfolding Kept Held
held_alike a b [] p k s h = record { same = λ j i. absurd (omega arith) }
held_alike a b (y ∷ l) p k (s, t) (inl (one, low, high)) = alike_in (s (λ e. omega arith)) p k low high
held_alike a b (y ∷ l) p k (s, t) (inr h) = held_alike a b l p k t h

pub held_none : (l : List Item) (p k : ℕ) → k ≡ 0 → Held l p k
unfolding Held
held_none [] p k e = e
held_none (y ∷ l) p k e = inr (held_none l p k e)

pub held_part : (l : List Item) (p k q n : ℕ) → p ≤ q → q + n ≤ p + k → Held l p k → Held l q n
unfolding Held
held_part [] p k q n a b h = omega arith
held_part (y ∷ l) p k q n a b (inl (one, low, high)) = inl (one, omega arith, omega arith)
held_part (y ∷ l) p k q n a b (inr h) = inr (held_part l p k q n a b h)

pub held_drop : (l : List Item) (i p k : ℕ) → Held (drop i l) p k → Held l p k
unfolding Held
held_drop [] zero p k h = h
held_drop [] (suc i) p k h = h
held_drop (y ∷ l) zero p k h = h
held_drop (y ∷ l) (suc i) p k h = inr (held_drop l i p k h)

pub held_left : (l r : List Item) (p k : ℕ) → Held l p k → Held (l ++ r) p k
unfolding Held
held_left [] r p k h = held_none r p k h
held_left (y ∷ l) r p k (inl h) = inl h
held_left (y ∷ l) r p k (inr h) = inr (held_left l r p k h)
