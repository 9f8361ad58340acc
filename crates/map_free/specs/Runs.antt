-- What a map is, whatever made it: from a place on, the maximal runs of the bytes that have a property, in ascending order. Only one list
-- is that.
-- Assumes nothing.
use Rattle.std.specs.Prelude.{ℕ, ◌+◌, ◌≤◌, ◌<◌, List, [], ◌∷◌, ◌≡◌, refl}
use Rattle.std.proofs.Common.{arith}
use Rattle.std.proofs.Math.Decide.{dec_lt}
use Rattle.map_free.specs.Free.{Span, span}

-- the first run from `at` on: it has a byte, no byte before it has the property, each of its own has, and the one after it hasn't
pub record Run (F : ℕ → Type 0) (at : ℕ) (s : Span) : Type 0 where
  pub from : at ≤ s.first
  pub some : s.first ≤ s.last
  pub gap : (y : ℕ) → at ≤ y → y < s.first → F y → ⊥
  pub free : (y : ℕ) → s.first ≤ y → y ≤ s.last → F y
  pub over : F (s.last + 1) → ⊥

-- all of them
abbrev pub Runs : (ℕ → Type 0) → ℕ → List Span → Type 0
Runs F at [] = (y : ℕ) → at ≤ y → F y → ⊥
Runs F at (s ∷ l) = Run F at s × Runs F (s.last + 1) l

module _ {F : ℕ → Type 0} where
  same_first : {at : ℕ} {s t : Span} → Run F at s → Run F at t → s.first ≡ t.first
  same_first {at} {s} {t} a b =
      elim (dec_lt s.first t.first) [
        | yes h ↦ absurd (b.gap s.first a.from h (a.free s.first (omega arith) a.some))
        | no h ↦ elim (dec_lt t.first s.first) [
          | yes g ↦ absurd (a.gap t.first b.from g (b.free t.first (omega arith) b.some))
          | no g ↦ omega arith
        ]
      ]

  same_last : {at : ℕ} {s t : Span} → Run F at s → Run F at t → s.last ≡ t.last
  same_last {at} {s} {t} a b =
      let e = same_first a b in
      elim (dec_lt s.last t.last) [
        | yes h ↦ absurd (a.over (b.free (s.last + 1) (omega (arith, a.some)) (omega arith)))
        | no h ↦ elim (dec_lt t.last s.last) [
          | yes g ↦ absurd (b.over (a.free (t.last + 1) (omega (arith, b.some)) (omega arith)))
          | no g ↦ omega arith
        ]
      ]

span_one : (s t : Span) → s.first ≡ t.first → s.last ≡ t.last → s ≡ t
span_one s t a b = go s.first s.last t.first t.last a b
  where
    go : (f l g m : ℕ) → f ≡ g → l ≡ m → span f l ≡ span g m
    go f l g m a b = cc

-- only one list is all of them
pub runs_one : (F : ℕ → Type 0) (at : ℕ) (l m : List Span) → Runs F at l → Runs F at m → l ≡ m
runs_one F at [] [] a b = refl
runs_one F at [] (t ∷ m) a b = absurd (a t.first b.0.from (b.0.free t.first (omega arith) b.0.some))
runs_one F at (s ∷ l) [] a b = absurd (b s.first a.0.from (a.0.free s.first (omega arith) a.0.some))
runs_one F at (s ∷ l) (t ∷ m) a b =
    let e = same_last a.0 b.0 in
    rw (span_one s t (same_first a.0 b.0) e, runs_one F (s.last + 1) l m a.1 (rw e b.1))
