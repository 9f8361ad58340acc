-- Items are apart where they are apart at each byte that a word can have.
-- Assumes nothing.
use Rattle.std.specs.Prelude.{ℕ, ◌+◌, ◌≤◌, ◌<◌, ◌⊎◌, ◌≡◌}
use mathlib.Core.List.{List, [], ◌∷◌, ◌++◌, append_assoc, append-nil}
use Rattle.std.proofs.Common.{inl, inr}
use native.Mathlib.Omega.{arith}
use Rattle.std.proofs.Math.Decide.{ℕ_discrete, dec_lt}
use Rattle.facts.specs.Fact.{Holds}
use Rattle.items.specs.declared.Item.{Item}
use Rattle.items.specs.Items.{each, apart, apart_from, word_kind, kind_number}
use Rattle.items.specs.ItemsLaws.{each_more}
use Rattle.items.specs.Shapes.{solid}
use Rattle.apart_marks.specs.Marks.{has, apart_at}
use Rattle.apart_windows.specs.Clear.{apart_from_at, ready}

module _ (E top : ℕ) where
  -- a byte of a word lies between
  word_byte : (k : ℕ) (x : Item) → Holds (ready E top x) → kind_number x.kind ≡ word_kind → Holds (has k x) → (E ≤ k) × (k < top)
  word_byte k x (s, inl n) w h = absurd (n w)
  word_byte k x (s, inr b) w h = (omega (arith, b.0, h.0), omega (arith, b.1, h.1))

  -- two that share a byte at which they are apart are no words
  shared : (k : ℕ) (x y : Item) → Holds (ready E top x) → Holds (ready E top y) → ((k : ℕ) → E ≤ k → k < top → Holds (apart_at k x y))
      → Holds (has k x) → Holds (has k y) → (kind_number x.kind ≡ word_kind) ⊎ (kind_number y.kind ≡ word_kind) → ⊥
  shared k x y rx ry at hx hy word = go (at k in_it.0 in_it.1) word
    where
      in_it : (E ≤ k) × (k < top)
      in_it = elim word [ inl w ↦ word_byte k x rx w hx | inr w ↦ word_byte k y ry w hy ]

      go : Holds (apart_at k x y) → (kind_number x.kind ≡ word_kind) ⊎ (kind_number y.kind ≡ word_kind) → ⊥
      go (inl n) (inl w) = n.0 w
      go (inl n) (inr w) = n.1 w
      go (inr (inl n)) w = n hx
      go (inr (inr n)) w = n hy

  -- where they overlap, the later start is a byte of both
  overlap : (x y : Item) → Holds (ready E top x) → Holds (ready E top y) → ((k : ℕ) → E ≤ k → k < top → Holds (apart_at k x y))
      → y.at < x.at + x.len → x.at < y.at + y.len → (kind_number x.kind ≡ word_kind) ⊎ (kind_number y.kind ≡ word_kind) → ⊥
  overlap x y rx ry at a b word = elim (dec_lt x.at y.at) [ yes l ↦ upper l ry.0 | no l ↦ lower l rx.0 ]
    where
      upper : x.at < y.at → Holds (solid y) → ⊥
      upper l (inl z) = omega arith
      upper l (inr z) = shared y.at x y rx ry at (omega arith, omega arith) (omega arith, omega arith) word

      lower : (x.at < y.at → ⊥) → Holds (solid x) → ⊥
      lower l (inl z) = shared x.at x y rx ry at (omega arith, omega arith) (omega arith, omega arith) word
      lower l (inr z) = shared x.at x y rx ry at (omega arith, omega arith) (omega arith, omega arith) word

  pair : (x y : Item) → Holds (ready E top x) → Holds (ready E top y) → ((k : ℕ) → E ≤ k → k < top → Holds (apart_at k x y))
      → Holds (apart x y)
  pair x y rx ry at =
      elim (dec_lt y.at (x.at + x.len)) [
        | no l ↦ inr (inl (omega arith))
        | yes l ↦ elim (dec_lt x.at (y.at + y.len)) [
          | no k ↦ inr (inr (omega arith))
          | yes k ↦ elim (ℕ_discrete (kind_number x.kind) word_kind) [
            | yes w ↦ absurd (overlap x y rx ry at l k (inl w))
            | no w ↦ elim (ℕ_discrete (kind_number y.kind) word_kind) [
              | yes u ↦ absurd (overlap x y rx ry at l k (inr u))
              | no u ↦ inl (w, u)
            ]
          ]
        ]
      ]

  each_pair : (x : Item) (l : List Item) → Holds (ready E top x) → Holds (each (ready E top) l)
      → ((k : ℕ) → E ≤ k → k < top → Holds (each (apart_at k x) l)) → Holds (each (apart x) l)
  unfolding each
  each_pair x [] r rs at = omega arith
  each_pair x (y ∷ l) r (ry, rs) at =
      (pair x y r ry (λ k a b. (at k a b).0), each_pair x l r rs (λ k a b. (at k a b).1))

  -- apart at each byte from E up to top is apart
  pub apart_all : (before l : List Item) → Holds (each (ready E top) before) → Holds (each (ready E top) l)
      → ((k : ℕ) → E ≤ k → k < top → Holds (apart_from_at k before l)) → Holds (apart_from before l)
  unfolding apart_from apart_from_at each
  apart_all before [] rs r at = omega arith
  apart_all before (x ∷ l) rs (rx, r) at = (
    each_pair x before rx rs (λ k a b. (at k a b).0),
    apart_all (before ++ (x ∷ [])) l (each_more (ready E top) before x rs rx) r (λ k a b. (at k a b).1),
  )

-- one more item
pub at_more : (k : ℕ) (before l : List Item) (x : Item) → Holds (apart_from_at k before l) → Holds (each (apart_at k x) (before ++ l))
    → Holds (apart_from_at k before (l ++ (x ∷ [])))
unfolding apart_from_at
at_more k before [] x h t = (rw (append-nil before) at t, omega arith)
at_more k before (y ∷ l) x (h, s) t =
    let e : (before ++ (y ∷ [])) ++ l ≡ before ++ (y ∷ l) = append_assoc before (y ∷ []) l in
    (h, at_more k (before ++ (y ∷ [])) l x s (rw e t))
